-- A finite f32 is a whole number of units of 2 ^ -149. Assumes nothing.
use Rattle.std.proofs.Common.{◌≡◌, ℕ, zero, suc, ◌+◌, ◌-◌, ◌*◌, ◌/◌, ◌%◌, ◌^◌, ◌<◌, ◌≤◌, Bool, true, false, ◌&&◌, T, eqb, ltb, leb, ℤ, pos, negsuc, ◌*ℤ◌, neg_ℤ, sym, refl, ap, ◌∙◌, subst, suc-le-suc, le_trans, le_of_eq, le_refl, lt_of_lt_of_le, mul_assoc, mul-le-mul, lt_of_mul-lt-mul_right, mul-lt-mul_of_pos_right, one-mul, lt_of_not-le, zero-mul, mul-one, mul_right_comm, not-le_of_lt, mul-div_cancel, arith, lit<, lit≤, eqb→eq, ltb→lt, leb→le, pow-add}
use lib.Pow.{pow-lt}
use lib.Ieee.{fin, binary32, fits, up, down}
use lib.Ieee.Fits.{and_l, and_r, up_pos, down_pos}
use Rattle.geom.specs.Invertible.{signed, units, UnitsExact}

-- ---- what a fin that fits is

pub record Held (m : ℕ) (e : ℤ) : Type 0 where
  pub digits : m < 2 ^ 24
  pub deep : down e ≤ 2 ^ 149
  pub under : m * up e < 2 ^ 128 * down e

factor_le : (a b : ℕ) → 0 < a → a * b ≡ 1 → b ≤ 1
factor_le a b h e = le_trans (le_of_eq (sym (one-mul b))) (le_trans (mul-le-mul h (le_refl b)) (le_of_eq e))

pub held : (s : Bool) (m : ℕ) (e : ℤ) → T (fits binary32 (fin s m e)) → Held m e
unfolding fits
held s zero e t = record {
  digits = lit< tt;
  deep = le_trans (factor_le (up e) (down e) (up_pos e) (eqb→eq (up e * down e) 1 t)) (lit≤ tt);
  under = le_trans (le_trans (le_of_eq (ap suc (zero-mul (up e)))) (down_pos e)) (le_trans (le_of_eq (sym (one-mul (down e)))) (mul-le-mul {n₂ = 2 ^ 128} (lit≤ tt) (le_refl (down e))));
}
held s (suc m) e t =
    let a : Bool = eqb (suc m % 2) 1 in
    let b : Bool = ltb (suc m) (2 ^ 24) in
    let c : Bool = leb (down e) (2 ^ 149) in
    let d : Bool = ltb (suc m * up e) (2 ^ 128 * down e) in
    record {
      digits = ltb→lt (suc m) (2 ^ 24) (and_r a b (and_l (a && b) c (and_l (a && b && c) d t)));
      deep = leb→le (down e) (2 ^ 149) (and_r (a && b) c (and_l (a && b && c) d t));
      under = ltb→lt (suc m * up e) (2 ^ 128 * down e) (and_r (a && b && c) d t);
    }

-- ---- 2 ^ e is 2 ^ j units

rest : (l k : ℕ) → suc k ≤ l → l - suc k + suc k ≡ l
rest l k h = omega arith

shallow : (l k : ℕ) → 2 ^ suc k ≤ 2 ^ l → suc k ≤ l
shallow l k h = lt_of_not-le (λ (g : l ≤ k). not-le_of_lt (pow-lt {i = l} {j = suc k} (suc-le-suc g)) h)

pub step : (l : ℕ) (e : ℤ) → down e ≤ 2 ^ l → (j : ℕ) × (up e * 2 ^ l ≡ 2 ^ j * down e)
step l (pos k) h = (k + l, sym (mul-one (2 ^ (k + l)) ∙ pow-add 2 k l))
step l (negsuc k) h = (l - suc k, one-mul (2 ^ l) ∙ ap (λ (x : ℕ). 2 ^ x) (sym (rest l k (shallow l k h))) ∙ pow-add 2 (l - suc k) (suc k))

-- ---- so m * 2 ^ e is m * 2 ^ j units

pub record Counted (m : ℕ) (e : ℤ) : Type 0 where
  pub j : ℕ
  pub count : m * up e * 2 ^ 149 ≡ m * 2 ^ j * down e
  pub digits : m < 2 ^ 24
  pub room : m * 2 ^ j < 2 ^ 277

scaled : (m u l p d : ℕ) → u * l ≡ p * d → m * u * l ≡ m * p * d
scaled m u l p d e = mul_assoc m u l ∙ ap (λ (x : ℕ). m * x) e ∙ sym (mul_assoc m p d)

roomy : (a d q w l : ℕ) → 0 < l → a * l ≡ w * d → a < q * d → w < q * l
roomy a d q w l p e h =
    lt_of_mul-lt-mul_right d
    (subst (λ (x : ℕ). x < q * l * d) e
    (lt_of_lt_of_le (mul-lt-mul_of_pos_right h p) (le_of_eq (mul_right_comm q d l))))

pub counted : (s : Bool) (m : ℕ) (e : ℤ) → T (fits binary32 (fin s m e)) → Counted m e
counted s m e t =
    let h : Held m e = held s m e t in
    let q : (j : ℕ) × (up e * 2 ^ 149 ≡ 2 ^ j * down e) = step 149 e h.deep in
    let n : m * up e * 2 ^ 149 ≡ m * 2 ^ q.0 * down e = scaled m (up e) (2 ^ 149) (2 ^ q.0) (down e) q.1 in
    record { j = q.0; count = n; digits = h.digits; room = roomy (m * up e) (down e) (2 ^ 128) (m * 2 ^ q.0) (2 ^ 149) (lit< tt) n h.under }

pub units_are : (s : Bool) (m : ℕ) (e : ℤ) (k : Counted m e) → units (fin s m e) ≡ signed s (m * 2 ^ k.j)
unfolding units
units_are s m e k = ap (signed s) (ap (λ (x : ℕ). x / down e) k.count ∙ mul-div_cancel (m * 2 ^ k.j) (down_pos e))

signed_times : (s : Bool) (a b : ℕ) → signed s a *ℤ pos b ≡ signed s (a * b)
signed_times false a b = refl
signed_times true zero b = ap (λ (x : ℕ). pos x) (zero-mul b) ∙ sym (ap (λ (x : ℕ). neg_ℤ (pos x)) (zero-mul b))
signed_times true (suc a) b = refl

pub units_exact : UnitsExact
units_exact s m e t =
    let k : Counted m e = counted s m e t in
    ap (λ (x : ℤ). x *ℤ pos (down e)) (units_are s m e k) ∙ signed_times s (m * 2 ^ k.j) (down e) ∙ ap (signed s) (sym k.count)
