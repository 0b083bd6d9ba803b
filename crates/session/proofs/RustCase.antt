-- Two cases of the Rust, by computation, as sessions and as calls: RKMC2, n = 2, y' = -rate y from time 0. A start and its reply, an attempt and s + k replies,
-- an accept. Step 0.37 from (-13.9375, -1.375), rates 19.1 and 4.5, takes 5 stages; step 0.43 from (-20.5625, 22.125), rates 3 and 56.7, takes 11. The Rust's
-- evaluations, candidate and norm are what `bindings/run findings` prints, the replies too. Step, states and rates are such that another order of the sums and
-- products, or another value of what a stage takes, shows in the bits: definitions that depart so are refused, also where the code departs with them.
use mathlib.Core.Path.{◌≡◌, refl, ap, ◌∙◌}
use mathlib.Core.Bool.{true}
use mathlib.Core.List.{List, [], ◌∷◌, ◌++◌, map}
use Prim.Native.Nat.{ℕ}
use lib.ListN.{length}
use lib.Ieee.{Float, binary64, of_bits}
use Rattle.ieee.specs.Double.{nought}
use Rattle.table.specs.Smallest.{smallest}
use Rattle.rkmc2_threshold.specs.Table.{threshold}
use Rattle.rkmc2_omega_zero.specs.Table as rkmc2-zero
use Rattle.rkmc2_omega_one.specs.Table as rkmc2-one
use Rattle.coefficients.specs.Rows.{rkmc2_b_first, rkmc2_first_polynomials, value_of, rkmc2_b_of, rkmc2_row, rkmc2_polynomials_on, candidate_weights}
use Rattle.workspace.specs.declared.Arguments.{Arguments}
use Rattle.workspace.specs.Vectors.{all_finite}
use Rattle.workspace.specs.Kernel.{initial_first_entry, combined_entry}
use Rattle.driver.specs.Calls.{Held, Call, Start, Attempt, Reply, Accept}
use Rattle.session.specs.Session.{takes, session, fresh, seen_of}
use Rattle.session.proofs.Case.{doubles, attempts, sessions, arguments, bits, kind, numbers, zeroes, from_start}

-- doubles by their bits; `shown` as `numbers` of Case tells it
pub record Case : Type 0 where
  pub step : ℕ
  pub state : List ℕ
  pub replies : List (List ℕ)
  pub shown : List (List ℕ)

pub five_stages : Case
five_stages = record {
  step = 0x3fd7ae147ae147ae;
  state = 0xc02be00000000000 ∷ 0xbff6000000000000 ∷ [];
  replies =
      (0x4070a34ccccccccd ∷ 0x4018c00000000000 ∷ [])
      ∷ (0x4070a34cc89f183a ∷ 0x4018bffffe891889 ∷ [])
      ∷ (0x4070a34cd0fac73c ∷ 0x4018c000005859c9 ∷ [])
      ∷ (0x4047f75df4e1cbb1 ∷ 0x4013f802d982835e ∷ [])
      ∷ (0x404230806b500627 ∷ 0x4006b5233c6f2701 ∷ [])
      ∷ (0x404af245e5c7805a ∷ 0x3ff5266c7f6560d6 ∷ [])
      ∷ (0x400b7fc5316e522c ∷ 0x3fe209866b9c540a ∷ [])
      ∷ (0x401e58cf34a03a16 ∷ 0x3ffb2bbcdb63e0f3 ∷ [])
      ∷ [];
  shown =
      (0 ∷ 0 ∷ 1 ∷ 0 ∷ 0xc02be00000000000 ∷ 0xbff6000000000000 ∷ [])
      ∷ (1 ∷ 0 ∷ 3 ∷ 0xc02be00000000000 ∷ 0xbff6000000000000 ∷ 0x4070a34ccccccccd ∷ 0x4018c00000000000 ∷ [])
      ∷ (1 ∷ 0 ∷ 1 ∷ 0 ∷ 0xc02bdffff8ffd2ce ∷ 0xbff5fffffeb2c07a ∷ [])
      ∷ (2 ∷ 0 ∷ 1 ∷ 0 ∷ 0xc02be0000700a23b ∷ 0xbff60000004e88b3 ∷ [])
      ∷ (3 ∷ 0 ∷ 1 ∷ 0x3fa5fac6f0ba1f15 ∷ 0xc004139310270874 ∷ 0xbff1c002887402fe ∷ [])
      ∷ (4 ∷ 0 ∷ 1 ∷ 0x3fc25b9f3bef9089 ∷ 0xbffe7977fd820cfc ∷ 0xbfe42f3bc3f1063a ∷ [])
      ∷ (5 ∷ 0 ∷ 1 ∷ 0x3fd08e173af92097 ∷ 0xc00692a8756d7cf1 ∷ 0xbfd2ccd2385a1d30 ∷ [])
      ∷ (6 ∷ 0 ∷ 1 ∷ 0x3fd7ae147ae147af ∷ 0xbfc7093094a21ca0 ∷ 0xbfc008777c192e42 ∷ [])
      ∷ (7 ∷ 0 ∷ 1 ∷ 0x3fd7ae147ae147ae ∷ 0xbfd96be735777a60 ∷ 0xbfd826e0c303729f ∷ [])
      ∷ (8 ∷ 1 ∷ 2 ∷ 0x40e9621291a26bce ∷ 5 ∷ 2 ∷ 0x4020f5e7419f3b6c ∷ 0xbfd96be735777a60 ∷ 0xbfd826e0c303729f ∷ [])
      ∷ (8 ∷ 1 ∷ 3 ∷ 0xbfd96be735777a60 ∷ 0xbfd826e0c303729f ∷ 0x401e58cf34a03a16 ∷ 0x3ffb2bbcdb63e0f3 ∷ [])
      ∷ [];
}

pub eleven_stages : Case
eleven_stages = record {
  step = 0x3fdb851eb851eb85;
  state = 0xc034900000000000 ∷ 0x4036200000000000 ∷ [];
  replies =
      (0x404ed80000000000 ∷ 0xc09399f333333333 ∷ [])
      ∷ (0x404ed7ffff7195e6 ∷ 0xc09399f32c84a718 ∷ [])
      ∷ (0x404ed80000078b54 ∷ 0xc09399f339e3ceef ∷ [])
      ∷ (0x404db2aadd496610 ∷ 0xc0775adf03d00207 ∷ [])
      ∷ (0x404ac0d831b4bc64 ∷ 0xc05bd06184c06840 ∷ [])
      ∷ (0x4047097f4327f58c ∷ 0xc0825c2280b12b0b ∷ [])
      ∷ (0x40436327ff0b0e18 ∷ 0xc06c258a98ed9e81 ∷ [])
      ∷ (0x40403326b3dbb022 ∷ 0xc00776c59df8a71a ∷ [])
      ∷ (0x403b1c3b8fa29992 ∷ 0xc05abb7662f0d48f ∷ [])
      ∷ (0x4036caf188a5f6dd ∷ 0xc04f397308840d91 ∷ [])
      ∷ (0x403343f470354965 ∷ 0xbfea0f003f2f5254 ∷ [])
      ∷ (0x40305c66d6f161c4 ∷ 0xc02ad8c1e97e462c ∷ [])
      ∷ (0x402be47dd72a7400 ∷ 0xc02a33535e05e733 ∷ [])
      ∷ (0x4032c763667bfb4b ∷ 0xc0507fa35a92b458 ∷ [])
      ∷ [];
  shown =
      (0 ∷ 0 ∷ 1 ∷ 0 ∷ 0xc034900000000000 ∷ 0x4036200000000000 ∷ [])
      ∷ (1 ∷ 0 ∷ 3 ∷ 0xc034900000000000 ∷ 0x4036200000000000 ∷ 0x404ed80000000000 ∷ 0xc09399f333333333 ∷ [])
      ∷ (1 ∷ 0 ∷ 1 ∷ 0 ∷ 0xc0348fffffa10e99 ∷ 0x40361ffff8753938 ∷ [])
      ∷ (2 ∷ 0 ∷ 1 ∷ 0 ∷ 0xc03490000005078d ∷ 0x40362000078d1a56 ∷ [])
      ∷ (3 ∷ 0 ∷ 1 ∷ 0x3f895c591cd79e87 ∷ 0xc033cc71e8db9960 ∷ 0x401a5ca33bd67894 ∷ [])
      ∷ (4 ∷ 0 ∷ 1 ∷ 0x3fa77032631093fd ∷ 0xc031d5e576787d98 ∷ 0x3fff651d4169a8b0 ∷ [])
      ∷ (5 ∷ 0 ∷ 1 ∷ 0x3fb785d02fde410a ∷ 0xc02eb754598a9cbb ∷ 0x4024b9444ad3b795 ∷ [])
      ∷ (6 ∷ 0 ∷ 1 ∷ 0x3fc24ecc37550d6f ∷ 0xc029d98aa96412cb ∷ 0x400fc53d2cd7d694 ∷ [])
      ∷ (7 ∷ 0 ∷ 1 ∷ 0x3fc8e8fcaa822cf0 ∷ 0xc0259988efcf9583 ∷ 0x3faa7c216e2225d0 ∷ [])
      ∷ (8 ∷ 0 ∷ 1 ∷ 0x3fcf538463fd073c ∷ 0xc02212d25fc1bbb7 ∷ 0x3ffe2c8b0be5d8e6 ∷ [])
      ∷ (9 ∷ 0 ∷ 1 ∷ 0x3fd2c11ae05d976d ∷ 0xc01e63ecb6329e7c ∷ 0x3ff19f4b4e66852c ∷ [])
      ∷ (10 ∷ 0 ∷ 1 ∷ 0x3fd5be8cd46802f2 ∷ 0xc019aff0959c61dc ∷ 0x3f8d69e0ac749fc0 ∷ [])
      ∷ (11 ∷ 0 ∷ 1 ∷ 0x3fd8a894c9b84d2d ∷ 0xc015d0891e972d05 ∷ 0x3fce4d9c1e94da44 ∷ [])
      ∷ (12 ∷ 0 ∷ 1 ∷ 0x3fdb851eb851eb85 ∷ 0xc0129853e4c6f800 ∷ 0x3fcd92e1090e56b0 ∷ [])
      ∷ (13 ∷ 0 ∷ 1 ∷ 0x3fdb851eb851eb85 ∷ 0xc01909d9ddfaa464 ∷ 0x3ff29f6c14f6dcb8 ∷ [])
      ∷ (14 ∷ 1 ∷ 2 ∷ 0x40ddcdbe950cea8f ∷ 11 ∷ 2 ∷ 0x403d41d16741660d ∷ 0xc01909d9ddfaa464 ∷ 0x3ff29f6c14f6dcb8 ∷ [])
      ∷ (14 ∷ 1 ∷ 3 ∷ 0xc01909d9ddfaa464 ∷ 0x3ff29f6c14f6dcb8 ∷ 0x4032c763667bfb4b ∷ 0xc0507fa35a92b458 ∷ [])
      ∷ [];
}

-- ---- the calls

unfoldable pub all_of_bits : List ℕ → List Float
all_of_bits l = map (of_bits binary64) l

unfoldable pub arguments_of : Case → Arguments
arguments_of c = record {
  time = nought;
  step = of_bits binary64 c.step;
  absolute_tolerance = arguments.absolute_tolerance;
  relative_tolerance = arguments.relative_tolerance;
  adaptive = true;
}

-- the attempt comes after the first reply
unfoldable pub with_attempt : Arguments → List (List ℕ) → List Call
with_attempt a [] = []
with_attempt a (d ∷ ds) = Reply (all_of_bits d) ∷ Attempt a ∷ map (λ d. Reply (all_of_bits d)) ds ++ Accept ∷ []

unfoldable pub after_start : Case → List Call
after_start c = with_attempt (arguments_of c) c.replies

abbrev pub calls_of : Case → List Call
calls_of c = Start 6 2 (all_of_bits c.state) nought ∷ after_start c

pub record Right (c : Case) : Type 0 where
  pub started : takes 22 (fresh zeroes) (Start 6 2 (all_of_bits c.state) nought) ≡ true
  pub as_shown : map numbers (session 22 (fresh zeroes) (calls_of c)) ≡ c.shown

unfoldable rkmc2 : Unit {0}
unfolding of_bits smallest threshold rkmc2-zero.omega_zero rkmc2-one.omega_one rkmc2_b_first rkmc2_first_polynomials value_of rkmc2_b_of rkmc2_row
    rkmc2_polynomials_on candidate_weights initial_first_entry combined_entry all_of_bits arguments_of with_attempt after_start
rkmc2 = tt

pub five_right : Right five_stages
unfolding numbers kind bits arguments zeroes doubles attempts sessions all_finite rkmc2 five_stages
five_right = record { started = refl; as_shown = refl }

pub eleven_right : Right eleven_stages
unfolding numbers kind bits arguments zeroes doubles attempts sessions all_finite rkmc2 eleven_stages
eleven_right = record { started = refl; as_shown = refl }

pub rkmc2_of_calls : (h : Held) (c : Case) → Right c → length h.area ≡ 22 → h.counters ≡ zeroes → map numbers (seen_of h (calls_of c)) ≡ c.shown
rkmc2_of_calls h c right l e = ap (map numbers) (from_start h 22 6 2 (all_of_bits c.state) nought (after_start c) l e right.started) ∙ right.as_shown
