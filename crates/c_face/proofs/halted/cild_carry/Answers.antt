-- What carry ensures of the fields lent and the path read, told and written by leave.
use Rattle.c_face.proofs.Written.{left_by}
use Rattle.c_face.proofs.halted.cild_carry.Goals as goal

pub returns : goal.returns
returns c =
    let e = rw (c.path_in-path.ensures c.args.old_places) at c.carry-r.ensures in
    left_by e (c.leave.ensures _)
