-- Above a distance of 0 the library's rotation is `rotl` as it stands; at 0 both parts of the library's are the word, and the right part of `rotl` is 0.
use Rattle.std.proofs.Common.{◌≡◌, ℕ, zero, suc, ◌-◌, ◌*◌, ◌/◌, ◌%◌, ◌^◌, ◌<◌, sym, ap, ◌∙◌, arith, div-one}
use Rattle.std.specs.Int.Bits.{bit_or, or_self, or_zero_r}
use Rattle.words.proofs.rotate_left.Goals as goal

same : (x d : ℕ) → x < 2 ^ 64 → d < 64 → bit_or ((x * 2 ^ d) % 2 ^ 64) (x / 2 ^ ((64 - d) % 64)) ≡ bit_or ((x * 2 ^ d) % 2 ^ 64) (x / 2 ^ (64 - d))
same x zero h k =
    let a : (x * 2 ^ 0) % 2 ^ 64 ≡ x = omega arith in
    let b : x / 2 ^ 64 ≡ 0 = omega arith in
    (λ i. bit_or (a i) (div-one x i)) ∙ or_self x ∙ sym ((λ i. bit_or (a i) (b i)) ∙ or_zero_r x)
same x (suc d) h k =
    let e : (64 - suc d) % 64 ≡ 64 - suc d = omega arith in
    ap (λ (n : ℕ). bit_or ((x * 2 ^ suc d) % 2 ^ 64) (x / 2 ^ n)) e

pub returns : goal.returns
returns c = c.rotate_left.ensures ∙ same c.args.x (c.args.k % 64) c.ranges.x.fits (omega arith)
