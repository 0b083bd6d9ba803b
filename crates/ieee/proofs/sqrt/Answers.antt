-- A guess that `is_root` passes is the root (`mid_root` of Cases).
use Rattle.std.proofs.Common.{◌≡◌, ℕ, ◌<◌, sym, ◌∙◌, subst, lt_irrefl}
use lib.Ieee.{binary64, of_bits}
use lib.Ieee.Bits.{of_bits-to_bits}
use Rattle.ieee.proofs.Logic.{yes}
use Rattle.ieee.proofs.Cases.{positive, mid_root}
use Rattle.ieee.proofs.sqrt.Goals as goal

some : {n : ℕ} → 0 < n → n ≡ 0 → ⊥
some h e = lt_irrefl 0 (subst (λ (x : ℕ). 0 < x) e h)

pub returns-then-is_root : goal.returns-then-is_root
unfolding of_bits
returns-then-is_root c =
    sym (of_bits-to_bits binary64 c.guess-g.result (yes c.guess-g.type_inv))
    ∙ c.is_root.ensures c.if-is_root.true
    ∙ mid_root c.args.x (yes c.well_formed.0.1) (positive c.args.x c.if-x.true) (some c.if-field-gt0.true) c.if-b-lt9218868437227405312.true
