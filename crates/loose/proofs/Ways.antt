-- Ways from one slot to another, past the last slot from the first.
use Rattle.std.proofs.Common.{◌≡◌, ℕ, suc, ◌+◌, ◌-◌, ◌*◌, ◌/◌, ◌%◌, ◌^◌, ◌<◌, ◌≤◌, true, false, cond, leb, mul-le-mul_right, arith}
use native.Mathlib.Nat.{div-le_of_le-mul}
use Rattle.std.proofs.lemmas.Bool.Decides.{nat_tests}
use Rattle.loose.specs.Homes.{home, on_way}

pub home_le : (k n : ℕ) → home k n ≤ n
unfolding home
home_le k n =
    let small : (k * 11400714819323198485) % 2 ^ 64 / 2 ^ 32 ≤ 2 ^ 32 = omega arith in
    div-le_of_le-mul (2 ^ 32) (mul-le-mul_right n small)

-- of two slots one lies on the way to the other
pub either_way : (h i j : ℕ) → (i ≡ j → ⊥) → on_way h j i ≡ false → on_way h i j ≡ true
either_way h i j ne off = grind (arith, nat_tests)

-- a way that crosses the hole goes on to each slot between it and its end
pub way_on : (h hole f j : ℕ) → on_way h hole j ≡ true → on_way (suc hole) f j ≡ true → on_way h f j ≡ true
way_on h hole f j over after = grind (arith, nat_tests)

pub way_back : (h j hole i : ℕ) → on_way h j hole ≡ true → on_way h hole i ≡ true → on_way h j i ≡ true
way_back h j hole i on over = grind (arith, nat_tests)

-- how far slot i, of n, lies behind h
abbrev pub far : ℕ → ℕ → ℕ → ℕ
far n h i = cond (leb h i) (i - h) (i + n - h)

pub far_less : (n h hole i : ℕ) → h ≤ n → hole < n → on_way h hole i ≡ true → far n h hole < far n h i
far_less n h hole i le lt on = grind (arith, nat_tests)
