-- What `pathrun` prints for a text: the text is read (net_text), the ensemble of its run line is called on its net (ssa), and the answer is printed
-- (result_text). Document 01, "Net text (added, house format)" and "Ensemble".
use Rattle.std.specs.Prelude.{ℕ, zero, suc, ◌*◌, cond, List, [], ◌∷◌, leb, length, take, drop, replicate, Float}
use Rattle.std.proofs.Math.Option.{Option}
use Rattle.std.specs.Float.{binary64}
use Rattle.std.specs.Float.Ieee.{of_bits}
use Rattle.net.specs.Net.{Net, zero64}
use Rattle.net.specs.Tests.{or_else}
use Rattle.text.specs.Text.{Bytes}
use Rattle.text.specs.Buffer.{placed}
use Rattle.net_text.specs.Reading.{RunLine, Answer, refused, given, read}
use Rattle.result_text.specs.Lines.{refused_line, printed}
use Rattle.averages.specs.Request.{Request, request_fault, tables_fault}
use Rattle.averages.specs.Tables.{Tables}
use Rattle.ssa.specs.Ensemble.{Outcome, averaged, turned_down, stopped, Call, unless_fault, tabulated, members_from}

-- ---- the call

-- "Its tables hold 2,048 cells each"
abbrev pub table_cells : ℕ
table_cells = 2048

-- a table as it is lent to the call
unfoldable pub table : List Float
table = replicate table_cells zero64

abbrev pub tables : Tables
tables = record { mean = table; deviation = table; path = table }

-- "Run: samples, realizations, seed, horizon"; the horizon is given by its bits
abbrev pub request : RunLine → Request
request r = record { samples = r.samples; realizations = r.realizations; seed = r.seed; horizon = of_bits binary64 r.horizon }

-- 8, 9, 10, 11: the run line is "tested by the ensemble, not the reader". The reader has tested the net.
abbrev pub run_fault : Net → Request → Option ℕ
run_fault n q = or_else (request_fault q) (tables_fault (length n.places * q.samples) table_cells table_cells table_cells)

-- the ensemble of a net that a text gives
abbrev pub ensemble_of : Net → Request → Call
ensemble_of n q =
    unless_fault (run_fault n q) tables (tabulated (length n.places) q.samples tables (members_from n q 0 q.realizations))

-- ---- what is printed

-- the rows of a table: k places, n cells each
abbrev pub rows : ℕ → ℕ → List Float → List (List Float)
rows zero n cells = []
rows (suc k) n cells = take n cells ∷ rows k n (drop n cells)

-- the result's lines, for so many places with these labels; "A refusal prints `(refused NUMBER LINE)`, line 0 for run refusals"
abbrev pub shown : ℕ → List Bytes → Request → Outcome → Tables → Bytes
shown places labels q (averaged spent deviates) t =
    printed places q.samples q.realizations labels (rows places q.samples t.mean) (rows places q.samples t.deviation)
shown places labels q (turned_down c) t = refused_line c 0
shown places labels q (stopped c k) t = refused_line c 0

abbrev pub ran : Net → List Bytes → Request → Bytes
ran n labels q = shown (length n.places) labels q (ensemble_of n q).outcome (ensemble_of n q).tables

abbrev pub answered : Answer → Bytes
answered (refused c line) = refused_line c line
answered (given n labels r) = ran n labels (request r)

-- from bytes to bytes
unfoldable pub output : Bytes → Bytes
output text = answered (read text)

-- ---- where it is left

-- no output is longer: 32 places with labels of 16 bytes, 2,048 cells in a table
abbrev pub longest : ℕ
longest = 71_240

-- A lent buffer and the answer once w is printed into it: w stands at its front and further bytes stay, and the answer is the length of w. A buffer
-- that could be too short for some output is left as it is, and the answer is 0.
abbrev pub printed_into : Bytes → Bytes → Bytes × ℕ
printed_into out w = cond (leb longest (length out)) (placed out 0 w, length w) (out, 0)
