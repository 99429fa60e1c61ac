-- The text of a net: the way a writer puts a net, the labels of its places and a run line into the lines of document 01, "Net text (added, house
-- format)", and document 02, order 1. A reader's answer to it is the same net, labels and run line (Writable says for which).
use Prim.Native.String.{String}
use Rattle.std.specs.Prelude.{List, [], ◌∷◌, ◌++◌, map}
use Rattle.net.specs.Net.{Place, Arc, Take, Transition, Net, pick}
use Rattle.text.specs.Text.{Bytes, bytes, newline}
use Rattle.text.specs.Numbers.{decimal_text, hex_digits, float_text}
use Rattle.net_text.specs.Reading.{RunLine}

-- parts one behind the other
abbrev pub together : List Bytes → Bytes
together [] = []
together (w ∷ ws) = w ++ together ws

-- ---- the lines

-- "Place: initial, capacity", and "a third part, its label"
abbrev pub place_line : Place → Bytes → Bytes
place_line q label =
    together (bytes "(place " ∷ decimal_text q.initial ∷ bytes " " ∷ decimal_text q.capacity ∷ bytes " " ∷ label ∷ bytes ")" ∷ [])

-- an arc with the space in front of it; of a take whether it is kinetic, 1 or 0
abbrev pub take_part : Take → Bytes
take_part k =
    together
    (bytes " (take " ∷ decimal_text k.place ∷ bytes " " ∷ decimal_text k.weight ∷ bytes " " ∷ decimal_text (pick k.kinetic 1 0) ∷ bytes ")" ∷ [])

abbrev pub arc_part : String → Arc → Bytes
arc_part word a = together (bytes word ∷ decimal_text a.place ∷ bytes " " ∷ decimal_text a.weight ∷ bytes ")" ∷ [])

-- the arcs of a move line: takes, puts, reads, blocks, each kind in the net's order
abbrev pub arc_parts : Transition → List Bytes
arc_parts t =
    map take_part t.takes ++ (map (arc_part " (put ") t.puts ++ (map (arc_part " (read ") t.reads ++ map (arc_part " (block ") t.blocks))

-- "Move: rate, delay, then arcs"
abbrev pub move_line : Transition → Bytes
move_line t = together (bytes "(move " ∷ float_text t.rate ∷ bytes " " ∷ float_text t.delay ∷ together (arc_parts t) ∷ bytes ")" ∷ [])

-- "Run: samples, realizations, seed, horizon"
abbrev pub run_line : RunLine → Bytes
run_line r =
    together
    (bytes "(run "
    ∷ decimal_text r.samples
    ∷ bytes " "
    ∷ decimal_text r.realizations
    ∷ bytes " "
    ∷ decimal_text r.seed
    ∷ bytes " "
    ∷ hex_digits 16 r.horizon
    ∷ bytes ")"
    ∷ [])

-- ---- the text

-- each place with its label; a place without one, or a label without a place, has no line
abbrev pub place_lines : List Place → List Bytes → List Bytes
place_lines [] labels = []
place_lines (q ∷ qs) [] = []
place_lines (q ∷ qs) (l ∷ labels) = place_line q l ∷ place_lines qs labels

abbrev pub net_lines : Net → List Bytes → RunLine → List Bytes
net_lines n labels r = bytes "(net" ∷ (place_lines n.places labels ++ (map move_line n.transitions ++ (run_line r ∷ bytes ")" ∷ [])))

-- "One form a line, …, newline after each"
abbrev pub ended : List Bytes → Bytes
ended [] = []
ended (l ∷ ls) = l ++ (newline ∷ ended ls)

unfoldable pub net_text : Net → List Bytes → RunLine → Bytes
net_text n labels r = ended (net_lines n labels r)
