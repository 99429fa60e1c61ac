-- `put_text` meets its contract: the room holds every text, so the text stands at its front and is what is put.
use mathlib.Core.Path.{ap, sym, ◌∙◌}
use lib.ListN.{length}
use Rattle.soak.proofs.Bound.{sizes}
use Rattle.soak.proofs.Placed.{text_in, never_short}
use Rattle.soak.proofs.put_text.Goals as goal

pub write_all-requires : goal.write_all-requires
write_all-requires c = (sizes c.args.places c.args.transitions c.requires).some_place

pub slice_bounds-room-end : goal.slice_bounds-room-end
slice_bounds-room-end c =
    let a = c.args in
    (text_in a.seed a.places a.transitions c.text_room-room.result _ _ c.ranges.seed.fits (sizes a.places a.transitions c.requires) c.text_room-room.ensures c.in_ok-n.ensures).fits

pub slice_bounds-put_bytes-end : goal.slice_bounds-put_bytes-end
slice_bounds-put_bytes-end c =
    let a = c.args in
    let front = text_in a.seed a.places a.transitions c.text_room-room.result _ _ c.ranges.seed.fits (sizes a.places a.transitions c.requires) c.text_room-room.ensures c.in_ok-n.ensures in
    front.long ∙ sym (ap length front.is)

pub returns-in_err-n : goal.returns-in_err-n
returns-in_err-n c =
    let a = c.args in
    absurd (never_short a.seed a.places a.transitions c.text_room-room.result _ c.ranges.seed.fits (sizes a.places a.transitions c.requires) c.text_room-room.ensures c.in_err-n.ensures)

pub returns : goal.returns
returns c =
    let a = c.args in
    let front = text_in a.seed a.places a.transitions c.text_room-room.result _ _ c.ranges.seed.fits (sizes a.places a.transitions c.requires) c.text_room-room.ensures c.in_ok-n.ensures in
    rw front.is at c.put_bytes.ensures
