-- The row of a place: part of the lent mean table or of the lent deviation table. Document 01, "Row".
use Rattle.std.specs.Prelude.{ℕ, ◌*◌, not, ◌&&◌, List, [], ◌∷◌, leb, ltb, length, take, drop, Float}
use Rattle.std.proofs.Math.Option.{Option, none, some}
use Rattle.refusals.specs as Refusal
use Rattle.net.specs.Tests.{first_of}
use Rattle.rows.specs.declared.Table.{Table}
use Rattle.rows.specs.declared.Table.TheVariants.{Mean, Deviation}
use Rattle.averages.specs.Request.{samples_fit}

-- "which table"
abbrev pub named : Table → List Float → List Float → List Float
named Mean mean deviation = mean
named Deviation mean deviation = deviation

-- "3 place not below the count, or count not 1..32; 8 samples not 2..1,024; 11 the named table shorter than count × samples"
-- (a table of so many cells)
abbrev pub fault_of : ℕ → ℕ → ℕ → ℕ → Option ℕ
fault_of place places samples cells =
    first_of ((Refusal.no_such_place, not (ltb place places && leb 1 places && leb places 32))
    ∷ (Refusal.bad_samples, not (samples_fit samples))
    ∷ (Refusal.short_table, not (leb (places * samples) cells))
    ∷ [])

abbrev pub row_fault : ℕ → ℕ → ℕ → List Float → Option ℕ
row_fault place places samples table = fault_of place places samples (length table)

-- "an empty part is handed back"
abbrev pub unless_fault : Option ℕ → List Float → List Float
unless_fault none part = part
unless_fault (some c) part = []

-- "The row of a place is handed back as part of the lent mean table or the lent deviation table": its samples cells from place × samples on
abbrev pub row_of : ℕ → ℕ → ℕ → List Float → List Float
row_of place places samples table = unless_fault (row_fault place places samples table) (take samples (drop (place * samples) table))
