-- Numbers that compare equal are one with the sign off their zeros. Assumes nothing.
use Rattle.std.proofs.Common.{◌≡◌, ℕ, zero, suc, ◌*◌, ◌%◌, ◌^◌, ◌<◌, Bool, true, false, ◌&&◌, ◌||◌, eqb, ℤ, pos, negsuc, sym, refl, ap, ◌∙◌, ⊎_elim, mul_assoc, mul-pos, one-mul, pow-suc, zero-mul, mul-one, arith}
use mathlib.Core.Bool.{beq}
use native.Mathlib.Nat.{pow-zero}
use lib.Ieee.{Float, nan, inf, fin, binary32, fits, eq, up, down}
use lib.Ieee.Fits.{up_pos, down_pos}
use Rattle.std.proofs.lemmas.Bool.{and_parts, eqb-true, or_cases}
use Rattle.record.specs.Zero.{zeroed}
use Rattle.sink.specs.Equal.{equal}

-- an odd number times a power of two is so in one way
one_way : (m n a b : ℕ) → m % 2 ≡ 1 → n % 2 ≡ 1 → m * 2 ^ a ≡ n * 2 ^ b → (m ≡ n) × (a ≡ b)
one_way m n zero zero odd odd' e = (simp (pow-zero, mul-one) at e, refl)
one_way m n zero (suc b) odd odd' e =
    let f : m ≡ n * 2 ^ b * 2 = simp (pow-zero, mul-one, pow-suc, ← mul_assoc) at e in absurd (omega arith)
one_way m n (suc a) zero odd odd' e =
    let f : m * 2 ^ a * 2 ≡ n = simp (pow-zero, mul-one, pow-suc, ← mul_assoc) at e in absurd (omega arith)
one_way m n (suc a) (suc b) odd odd' e =
    let f : m * 2 ^ a * 2 ≡ n * 2 ^ b * 2 = simp (pow-suc, ← mul_assoc) at e in
    let p = one_way m n a b odd odd' (omega (arith, f)) in
    (p.0, ap suc p.1)

matched : (m n : ℕ) (e d : ℤ) → m % 2 ≡ 1 → n % 2 ≡ 1 → m * up e * down d ≡ n * up d * down e → (m ≡ n) × (e ≡ d)
matched m n (pos k) (pos l) odd odd' e = let p = one_way m n k l odd odd' (simp mul-one at e) in (p.0, ap pos p.1)
matched m n (pos k) (negsuc l) odd odd' e =
    let f : m * 2 ^ k * 2 ^ l * 2 ≡ n = simp (mul-one, pow-suc, ← mul_assoc) at e in absurd (omega arith)
matched m n (negsuc k) (pos l) odd odd' e =
    let f : m ≡ n * 2 ^ l * 2 ^ k * 2 = simp (mul-one, pow-suc, ← mul_assoc) at e in absurd (omega arith)
matched m n (negsuc k) (negsuc l) odd odd' e =
    let p = one_way m n (suc l) (suc k) odd odd' (simp mul-one at e) in
    let same : k ≡ l = omega (arith, p.1) in
    (p.0, ap negsuc same)

-- zero is written with the exponent 0
at_zero : (e : ℤ) → up e * down e ≡ 1 → e ≡ pos 0
at_zero (pos zero) e = refl
at_zero (pos (suc k)) e = let f : 2 ^ k * 2 ≡ 1 = simp (mul-one, pow-suc) at e in absurd (omega arith)
at_zero (negsuc k) e = let f : 2 ^ k * 2 ≡ 1 = simp (one-mul, pow-suc) at e in absurd (omega arith)

beq_same : (s t : Bool) → beq s t ≡ true → s ≡ t
beq_same true true e = refl
beq_same false false e = refl
beq_same true false e = let z : ◌≡◌ {A = ℕ} 0 1 = cc in absurd (omega arith)
beq_same false true e = let z : ◌≡◌ {A = ℕ} 0 1 = cc in absurd (omega arith)

not_zero : (n : ℕ) (d e : ℤ) → 0 < suc n * up d * down e
not_zero n d e = mul-pos (mul-pos (omega arith) (up_pos d)) (down_pos e)

same_sign : (s t : Bool) (a : ℕ) → 0 < a → (beq s t || eqb a 0) ≡ true → s ≡ t
same_sign s t a some e = ⊎_elim (beq_same s t) (λ z. let n = eqb-true a 0 z in absurd (omega (arith, n, some))) (or_cases (beq s t) (eqb a 0) e)

fits_odd : (s : Bool) (m : ℕ) (e : ℤ) → fits binary32 (fin s (suc m) e) ≡ true → suc m % 2 ≡ 1
unfolding fits
fits_odd s m e f =
    let far = (and_parts _ _ f).0 in
    let fine = (and_parts _ _ far).0 in
    eqb-true (suc m % 2) 1 (and_parts _ _ fine).0

same : (x y : Float) → fits binary32 x ≡ true → fits binary32 y ≡ true → eq x y ≡ true → zeroed x ≡ zeroed y
unfolding fits eq zeroed
same nan y fx fy e = let z : ◌≡◌ {A = ℕ} 0 1 = cc in absurd (omega arith)
same (inf s) nan fx fy e = let z : ◌≡◌ {A = ℕ} 0 1 = cc in absurd (omega arith)
same (inf s) (inf t) fx fy e = ap inf (beq_same s t e)
same (inf s) (fin t n d) fx fy e = let z : ◌≡◌ {A = ℕ} 0 1 = cc in absurd (omega arith)
same (fin s m k) nan fx fy e = let z : ◌≡◌ {A = ℕ} 0 1 = cc in absurd (omega arith)
same (fin s m k) (inf t) fx fy e = let z : ◌≡◌ {A = ℕ} 0 1 = cc in absurd (omega arith)
same (fin s zero k) (fin t zero d) fx fy e = ap (fin false zero) (at_zero k (eqb-true (up k * down k) 1 fx) ∙ sym (at_zero d (eqb-true (up d * down d) 1 fy)))
same (fin s zero k) (fin t (suc n) d) fx fy e =
    let p : 0 * up k * down d ≡ suc n * up d * down k = eqb-true _ _ (and_parts _ _ e).0 in
    let q = not_zero n d k in
    let f : 0 ≡ suc n * up d * down k = simp zero-mul at p in absurd (omega arith)
same (fin s (suc m) k) (fin t zero d) fx fy e =
    let p : suc m * up k * down d ≡ 0 * up d * down k = eqb-true _ _ (and_parts _ _ e).0 in
    let q = not_zero m k d in
    let f : suc m * up k * down d ≡ 0 = simp zero-mul at p in absurd (omega arith)
same (fin s (suc m) k) (fin t (suc n) d) fx fy e =
    let p = and_parts (eqb (suc m * up k * down d) (suc n * up d * down k)) (beq s t || eqb (suc m * up k * down d) 0) e in
    let odd = fits_odd s m k fx in
    let odd' = fits_odd t n d fy in
    let q = matched (suc m) (suc n) k d odd odd' (eqb-true _ _ p.0) in
    let sign = same_sign s t (suc m * up k * down d) (not_zero m k d) p.1 in
    rw (sign, q.1) (ap (λ i. fin t i d) q.0)

pub equal_zeroed : (x y : Float) → equal x y ≡ true → zeroed x ≡ zeroed y
equal_zeroed x y e =
    let p = and_parts (fits binary32 x && fits binary32 y) (eq x y) e in
    let q = and_parts (fits binary32 x) (fits binary32 y) p.0 in
    same x y q.0 q.1 p.1
