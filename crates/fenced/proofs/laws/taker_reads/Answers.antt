use Rattle.fenced.proofs.Reading.{all_there, finds_last, reads_text}
use Rattle.fenced.proofs.laws.taker_reads.Goals as goal

pub returns-clause-there : goal.returns-clause-there
returns-clause-there c = λ run is rules. all_there run is rules

pub returns-clause-reads : goal.returns-clause-reads
returns-clause-reads c = λ run is rules. reads_text run is rules

pub returns-clause-last : goal.returns-clause-last
returns-clause-last c = λ run is rules. finds_last run is rules
