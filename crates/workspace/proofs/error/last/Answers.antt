use Rattle.std.proofs.Common.{◌≡◌, sym, ap, subst, Bool, cond, List, Float, ℕ}
use Rattle.family.specs.declared.Facts.{Facts}
use Rattle.family.specs.declared.Setting.{Setting}
use Rattle.family.specs.declared.ErrorForm.{ErrorForm}
use Rattle.workspace.specs.declared.Arguments.{Arguments}
use Rattle.workspace.specs.Vectors.{Vectors, Becomes, ◌with◌≔◌, each, unpack, derivative, last_derivative}
use Rattle.workspace.specs.Kernel.{with_last, error_in, error}
use Rattle.workspace.proofs.Areas.{becomes_as, becomes_then}
use Rattle.workspace.proofs.error.last.Goals as goal

by-adaptive : (m : Setting) (n : ℕ) (a : Arguments) (v : Vectors) (d : List Float) {t : Bool} → a.adaptive ≡ t
    → (let w = v with last_derivative ≔ d in cond t (w with derivative ≔ each n w (error m a.step)) w) ≡ with_last m n a v d
unfolding with_last
by-adaptive m n a v d e = let w = v with last_derivative ≔ d in sym (ap (λ (t : Bool). cond t (w with derivative ≔ each n w (error m a.step)) w) e)

of-form : {n : ℕ} {l m : List Float} (h : Float) {f g : ErrorForm} → f ≡ g → Becomes n l m (λ w. w with derivative ≔ each n w (error_in f h))
    → Becomes n l m (λ w. w with derivative ≔ each n w (error_in g h))
of-form {n} {l} {m} h e b = subst (λ (form : ErrorForm). Becomes n l m (λ w. w with derivative ≔ each n w (error_in form h))) e b

pub returns-then-arguments : goal.returns-then-arguments
returns-then-arguments c =
    let x = c.args in
    let g : Vectors → Vectors = λ w. w with derivative ≔ each x.n w (error x.setting x.arguments.step) in
    becomes_as (becomes_then {g = g} c.put_vector.ensures
    (of-form x.arguments.step (ap (λ (f : Facts). f.error) c.facts-form.ensures) c.put_error.ensures))
    (by-adaptive x.setting x.n x.arguments (unpack x.n x.area.now) x.derivative.now c.if-arguments.true)

pub returns-else-arguments : goal.returns-else-arguments
returns-else-arguments c =
    let x = c.args in
    becomes_as c.put_vector.ensures
    (by-adaptive x.setting x.n x.arguments (unpack x.n x.area.now) x.derivative.now c.if-arguments.false)
