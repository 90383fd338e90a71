use Rattle.words.proofs.Items.{hex_again, parts_again}
use Rattle.words.proofs.item.items_are_found_again.Goals as goal

pub returns-clause-parts : goal.returns-clause-parts
returns-clause-parts c = parts_again

pub returns-clause-text : goal.returns-clause-text
returns-clause-text c = hex_again
