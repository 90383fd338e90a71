use Rattle.std.proofs.Common.{◌∙◌}
use Rattle.directory.proofs.Rows.{spelled}
use Rattle.directory.proofs.name.Name.from_words.Goals as goal

pub returns : goal.returns
returns c =
    c.spelled.ensures
    ∙ spelled c.row_of-row.result c.text_len.result c.args.first c.args.second c.row_of-row.ensures c.text_len.ensures.value
