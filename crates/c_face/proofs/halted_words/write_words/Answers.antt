-- Each call puts its part into what the calls before it left, the first into zeros.
use lib.ListN.{get_or-replicate}
use Rattle.c_face.proofs.Putting.{least_min, words_put}
use Rattle.c_face.proofs.halted_words.write_words.Goals as goal

pub returns : goal.returns
returns c =
    let s = c.args in
    λ ats i h.
    words_put s.places s.counts.now s.numbers.now s.whos.now s.takens.now s.n c.min.result c.min-k.result
    (least_min s.places 32 c.min.result c.min.ensures) (least_min s.n 256 c.min-k.result c.min-k.ensures)
    c.put.ensures c.put-2.ensures c.put_whos.ensures c.put-3.ensures (λ k l. get_or-replicate 816 k 0 0 l) ats i h
