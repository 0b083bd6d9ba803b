-- A case of the Rust with a history, by computation, as a session and as calls: TSRKC2, n = 2, y' = -rate y from time 0, state (-20.25, -7.4375), rates 14.8
-- and 6.4. A start and its reply, then three attempts, each with its s + k replies and an accept: step 0.297001 without a history, in 3 stages; 0.439274 and
-- 0.779309 with one, q about 0.68 and 0.56, in 4 each. The Rust's evaluations, candidates and norms are what `bindings/run findings` prints, the replies too.
-- The third attempt tells the last accepted step and the state before it from the first ones. States, rates and steps are such that another order of the sums
-- and products of a row, of the gain, of the candidate or of the error shows in the bits; before it is rounded down the stage rule is within two millionths of
-- a whole number each time, above it and below it, so that constants of the rule which differ by a part in 100,000 show too.
use mathlib.Core.Path.{◌≡◌, refl, ap, ◌∙◌}
use mathlib.Core.Bool.{true}
use mathlib.Core.List.{List, [], ◌∷◌, ◌++◌, map}
use Prim.Native.Nat.{ℕ}
use lib.ListN.{length}
use lib.Ieee.{Float, binary64, of_bits}
use Rattle.ieee.specs.Double.{nought}
use Rattle.tsrkc2_omega_zero_minus_one.specs.Table.{omega_zero_minus_one}
use Rattle.coefficients.specs.Rows.{tsrkc2_omega_zero, omega_zero_squared_minus_one, derivative_t_star, second_derivative_t_star, tsrkc2_omega_one, tsrkc2_gain}
use Rattle.coefficients.specs.Rows.{tsrkc2_first_polynomials, value_of, tsrkc2_row, tsrkc2_polynomials_on}
use Rattle.workspace.specs.declared.Arguments.{Arguments}
use Rattle.workspace.specs.Vectors.{all_finite}
use Rattle.workspace.specs.Kernel.{plain_entry, mixed_entry}
use Rattle.driver.specs.Calls.{Held, Call, Start, Attempt, Reply, Accept}
use Rattle.session.specs.Session.{takes, session, fresh, seen_of}
use Rattle.session.proofs.Case.{doubles, attempts, sessions, arguments, bits, kind, numbers, zeroes, from_start}
use Rattle.session.proofs.RustCase.{all_of_bits}

-- an attempt that is accepted; doubles by their bits
pub record Accepted : Type 0 where
  pub time : ℕ
  pub step : ℕ
  pub replies : List (List ℕ)

pub three_accepted : List Accepted
three_accepted =
    record {
      time = 0;
      step = 0x3fd302107b784663;
      replies =
          (0x4072bb332e45e8ab ∷ 0x4047ccccca17c87c ∷ [])
          ∷ (0x4072bb33382d4c87 ∷ 0x4047cccccdfb86af ∷ [])
          ∷ (0xc068bb87561b102d ∷ 0x402ada94d77a20fa ∷ [])
          ∷ (0xc03f50b1e272a11d ∷ 0xc04316a50bd7817c ∷ [])
          ∷ (0x4071363495b8d54e ∷ 0x403688c7e2f47c09 ∷ [])
          ∷ [];
    }
    ∷ record {
      time = 0x3fd302107b784663;
      step = 0x3fdc1d10b1feeb2d;
      replies =
          (0x4071363491583a64 ∷ 0x403688c7e20e3588 ∷ [])
          ∷ (0x407136349a19d70d ∷ 0x403688c7e3581948 ∷ [])
          ∷ (0x40425ed353bd1235 ∷ 0x402c2dfb30901554 ∷ [])
          ∷ (0xc070310cb3f2b36e ∷ 0xc01255f4d526d178 ∷ [])
          ∷ (0xc059a0b85423ef6f ∷ 0xc033062a1af464d6 ∷ [])
          ∷ (0x406eda303e5e6b78 ∷ 0x4018fae8ede87764 ∷ [])
          ∷ [];
    }
    ∷ record {
      time = 0x3fe78f9096bb98c8;
      step = 0x3fe8f0196d8f4f94;
      replies =
          (0x406eda3036a486ae ∷ 0x4018fae8ed507587 ∷ [])
          ∷ (0x406eda304618569b ∷ 0x4018fae8ee2a3338 ∷ [])
          ∷ (0xc0637b4ee3e455d6 ∷ 0x3ffd6d6a544f54b4 ∷ [])
          ∷ (0xc0473515b995d0a2 ∷ 0xc01418d57464292f ∷ [])
          ∷ (0x4069b82f18432faa ∷ 0xc01291ca93cc294d ∷ [])
          ∷ (0xc0126e1d7d9c3726 ∷ 0x40254fe07489fd69 ∷ [])
          ∷ [];
    }
    ∷ []

-- as `numbers` of Case tells it
pub two_step_shown : List (List ℕ)
two_step_shown =
    (0 ∷ 0 ∷ 1 ∷ 0 ∷ 0xc034400000000000 ∷ 0xc01dc00000000000 ∷ [])
    ∷ (1 ∷ 0 ∷ 3 ∷ 0xc034400000000000 ∷ 0xc01dc00000000000 ∷ 0x4072bb3333333333 ∷ 0x4047cccccccccccd ∷ [])
    ∷ (1 ∷ 0 ∷ 1 ∷ 0 ∷ 0xc0343ffffaac7127 ∷ 0xc01dbffffc9dba9b ∷ [])
    ∷ (2 ∷ 0 ∷ 1 ∷ 0 ∷ 0xc03440000561677d ∷ 0xc01dc000017a685a ∷ [])
    ∷ (3 ∷ 0 ∷ 1 ∷ 0x3fbcb78539e68021 ∷ 0x402abce5562b1868 ∷ 0xc000c89d06ac549c ∷ [])
    ∷ (4 ∷ 0 ∷ 1 ∷ 0x3fdc1c75dae08c8f ∷ 0x4000ed593c224940 ∷ 0x4017dc4e4ecd61db ∷ [])
    ∷ (5 ∷ 0 ∷ 1 ∷ 0x3fd302107b784663 ∷ 0xc0329b771e66f470 ∷ 0xc00c2af9dbb19b0b ∷ [])
    ∷ (6 ∷ 1 ∷ 2 ∷ 0x412b3b99be791793 ∷ 3 ∷ 2 ∷ 0x40150f035bb1c8ad ∷ 0xc0329b771e66f470 ∷ 0xc00c2af9dbb19b0b ∷ [])
    ∷ (6 ∷ 1 ∷ 3 ∷ 0xc0329b771e66f470 ∷ 0xc00c2af9dbb19b0b ∷ 0x4071363495b8d54e ∷ 0x403688c7e2f47c09 ∷ [])
    ∷ (6 ∷ 1 ∷ 1 ∷ 0x3fd302107b784663 ∷ 0xc0329b7719ab7d65 ∷ 0xc00c2af9da91c2e9 ∷ [])
    ∷ (7 ∷ 1 ∷ 1 ∷ 0x3fd302107b784663 ∷ 0xc0329b772322daa6 ∷ 0xc00c2af9dc2e1f9a ∷ [])
    ∷ (8 ∷ 1 ∷ 1 ∷ 0x3fd6c165c7ac2547 ∷ 0xc003dc22bb649e10 ∷ 0xc0019cbcfe5a0d54 ∷ [])
    ∷ (9 ∷ 1 ∷ 1 ∷ 0x3fe0e89426fee001 ∷ 0x403181227d596808 ∷ 0x3fe6eb720a7085d6 ∷ [])
    ∷ (10 ∷ 1 ∷ 1 ∷ 0x3fe9d693acafd766 ∷ 0x401bb4ab993b9b10 ∷ 0x4007c7b4a1b17e0b ∷ [])
    ∷ (11 ∷ 1 ∷ 1 ∷ 0x3fe78f9096bb98c8 ∷ 0xc030ad4a8293e710 ∷ 0xbfef39a32962953c ∷ [])
    ∷ (12 ∷ 2 ∷ 2 ∷ 0x413388b5075dadcf ∷ 4 ∷ 2 ∷ 0x401f3434f356238e ∷ 0xc030ad4a8293e710 ∷ 0xbfef39a32962953c ∷ [])
    ∷ (12 ∷ 2 ∷ 3 ∷ 0xc030ad4a8293e710 ∷ 0xbfef39a32962953c ∷ 0x406eda303e5e6b78 ∷ 0x4018fae8ede87764 ∷ [])
    ∷ (12 ∷ 2 ∷ 1 ∷ 0x3fe78f9096bb98c8 ∷ 0xc030ad4a7e66c557 ∷ 0xbfef39a328a492e8 ∷ [])
    ∷ (13 ∷ 2 ∷ 1 ∷ 0x3fe78f9096bb98c8 ∷ 0xc030ad4a86c10c38 ∷ 0xbfef39a329b4c005 ∷ [])
    ∷ (14 ∷ 2 ∷ 1 ∷ 0x3feb16981e8b79ca ∷ 0x40250faf3b8f10b0 ∷ 0xbfd2646274b194f0 ∷ [])
    ∷ (15 ∷ 2 ∷ 1 ∷ 0x3ff2c0140ac129fc ∷ 0x400916cb60d95040 ∷ 0x3fe91f0ad17d337a ∷ [])
    ∷ (16 ∷ 2 ∷ 1 ∷ 0x3ffb27e8f3d2de20 ∷ 0xc02bce09665678b7 ∷ 0x3fe7363d38bf33a0 ∷ [])
    ∷ (17 ∷ 2 ∷ 1 ∷ 0x3ff83fd50225742e ∷ 0x3fd3ecaa429b0b30 ∷ 0xbffaa3d891ac7cc3 ∷ [])
    ∷ (18 ∷ 3 ∷ 2 ∷ 0x4129ad98b2bdd907 ∷ 4 ∷ 2 ∷ 0x402bae55687101fc ∷ 0x3fd3ecaa429b0b30 ∷ 0xbffaa3d891ac7cc3 ∷ [])
    ∷ (18 ∷ 3 ∷ 3 ∷ 0x3fd3ecaa429b0b30 ∷ 0xbffaa3d891ac7cc3 ∷ 0xc0126e1d7d9c3726 ∷ 0x40254fe07489fd69 ∷ [])
    ∷ []

-- ---- the calls

unfoldable pub arguments_of : Accepted → Arguments
arguments_of a = record {
  time = of_bits binary64 a.time;
  step = of_bits binary64 a.step;
  absolute_tolerance = arguments.absolute_tolerance;
  relative_tolerance = arguments.relative_tolerance;
  adaptive = true;
}

unfoldable pub one_after_another : List Accepted → List Call
one_after_another [] = []
one_after_another (a ∷ rest) = Attempt (arguments_of a) ∷ map (λ d. Reply (all_of_bits d)) a.replies ++ Accept ∷ one_after_another rest

unfoldable pub start_state : List Float
start_state = all_of_bits (0xc034400000000000 ∷ 0xc01dc00000000000 ∷ [])

unfoldable pub after_start : List Call
after_start = Reply (all_of_bits (0x4072bb3333333333 ∷ 0x4047cccccccccccd ∷ [])) ∷ one_after_another three_accepted

abbrev pub two_step_calls : List Call
two_step_calls = Start 7 2 start_state nought ∷ after_start

unfoldable tsrkc2 : Unit {0}
unfolding of_bits omega_zero_minus_one tsrkc2_omega_zero omega_zero_squared_minus_one derivative_t_star second_derivative_t_star tsrkc2_omega_one tsrkc2_gain
    tsrkc2_first_polynomials value_of tsrkc2_row tsrkc2_polynomials_on plain_entry mixed_entry all_of_bits arguments_of one_after_another start_state after_start
tsrkc2 = tt

two_step_started : takes 24 (fresh zeroes) (Start 7 2 start_state nought) ≡ true
unfolding sessions all_finite zeroes of_bits all_of_bits start_state
two_step_started = refl

pub two_step_right : map numbers (session 24 (fresh zeroes) two_step_calls) ≡ two_step_shown
unfolding numbers kind bits arguments zeroes doubles attempts sessions all_finite tsrkc2 three_accepted two_step_shown
two_step_right = refl

pub two_step_of_calls : (h : Held) → length h.area ≡ 24 → h.counters ≡ zeroes → map numbers (seen_of h two_step_calls) ≡ two_step_shown
two_step_of_calls h l e = ap (map numbers) (from_start h 24 7 2 start_state nought after_start l e two_step_started) ∙ two_step_right
