-- `dev_line` meets its contract: it is `row_line` at its word.
use Rattle.result_text.proofs.dev_line.Goals as goal

pub returns : goal.returns
returns c = c.row_line.ensures
