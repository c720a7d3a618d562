-- The product of two f32 in binary64 is exact, and two such products compare as the whole numbers of units do. Assumes nothing.
use Rattle.std.proofs.Common.{◌≡◌, ℕ, zero, suc, ◌+◌, ◌*◌, ◌^◌, ◌<◌, Bool, true, false, not, ◌&&◌, ◌||◌, T, [], ◌∷◌, eqb, ℤ, ◌*ℤ◌, sym, refl, ap, ◌∙◌, subst, ap₂, lt_of_lt_of_le, mul_assoc, mul_comm, mul-le-mul, mul-lt-mul_of_pos_right, mul-pos, mul-zero, zero-mul, mul_right_comm, mul_left_comm, arith, lit<, lit≤, pow-add}
use mathlib.Core.Bool.{beq}
use native.Mathlib.Nat.{mul-mul-mul_comm, eq_of_mul-eq-mul_right}
use lib.Ieee.{Float, nan, inf, fin, binary32, binary64, fits, up, down, unlike, level, round, mul, eq, ne}
use lib.Ieee.Fits.{and_l, and_r, down_pos}
use lib.Ieee.Exact.{HasValue, round_exact}
use Rattle.std.proofs.lemmas.Bool.Decides.{nat_tests}
use Rattle.std.proofs.Math.Bool.{and_assoc, and-true}
use Rattle.std.specs.Float.{float_is_finite}
use Rattle.std.specs.List.{list_all}
use Rattle.geom.specs.Invertible.{signed, same, units, invertible}
use Rattle.geom.proofs.Units.{Counted, counted, units_are}

-- ---- the product

-- one fraction for another of the same size
same_value : (x : Float) (s : Bool) (a c b d : ℕ) → 0 < c → b * c ≡ a * d → HasValue x s a c → HasValue x s b d
same_value nan s a c b d p h v = v
same_value (inf t) s a c b d p h v = v
same_value (fin t m e) s a c b d p h v = (
  v.0,
  eq_of_mul-eq-mul_right c p (m * up e * d) (b * down e)
      (mul_right_comm (m * up e) d c ∙ ap (λ (x : ℕ). x * d) v.1 ∙ mul_right_comm a (down e) d ∙ ap (λ (x : ℕ). x * down e) (sym h) ∙ mul_right_comm b c (down e)),
)

cross : (a b l w v d g : ℕ) → a * l ≡ w * d → b * l ≡ v * g → a * b * (l * l) ≡ w * v * (d * g)
cross a b l w v d g p q = mul-mul-mul_comm a b l l ∙ ap₂ (λ (x y : ℕ). x * y) p q ∙ mul-mul-mul_comm w d v g

product_lt : (a b c d : ℕ) → a < c → b < d → a * b < c * d
product_lt a b c d p q = omega (arith, mul-le-mul {n₁ = suc a} {m₁ = suc b} p q, mul_comm a b)

powers : (m n i j k : ℕ) → m * 2 ^ i * (n * 2 ^ j) * 2 ^ k ≡ m * n * 2 ^ (i + j + k)
powers m n i j k = simp (pow-add, mul_assoc, mul_left_comm)

-- with l for 2 ^ 149 and k for the rest of binary64's 2 ^ 1074
lifted : (a b l k w v d g : ℕ) → a * b * (l * l) ≡ w * v * (d * g) → a * b * (l * l * k) ≡ w * v * k * (d * g)
lifted a b l k w v d g h = sym (mul_assoc (a * b) (l * l) k) ∙ ap (λ (x : ℕ). x * k) h ∙ mul_right_comm (w * v) (d * g) k

pub product : (s : Bool) (m : ℕ) (e : ℤ) (t : Bool) (n : ℕ) (d : ℤ) (p : Counted m e) (q : Counted n d)
    → HasValue (mul binary64 (fin s m e) (fin t n d)) (unlike s t) (m * 2 ^ p.j * (n * 2 ^ q.j)) (2 ^ 298)
unfolding mul
product s m e t n d p q =
    let w = m * 2 ^ p.j in
    let v = n * 2 ^ q.j in
    let num = m * up e * (n * up d) in
    let den = down e * down d in
    let whole : w * v * 2 ^ 776 ≡ m * n * 2 ^ (p.j + q.j + 776) = powers m n p.j q.j 776 in
    let x : num * 2 ^ 298 ≡ w * v * den = cross (m * up e) (n * up d) (2 ^ 149) w v (down e) (down d) p.count q.count in
    let y : num * 2 ^ 1074 ≡ w * v * 2 ^ 776 * den = lifted (m * up e) (n * up d) (2 ^ 149) (2 ^ 776) w v (down e) (down d) x in
    let room : w * v < 2 ^ 554 = product_lt w v (2 ^ 277) (2 ^ 277) p.room q.room in
    let fine : m * n * 2 ^ (p.j + q.j + 776) < 2 ^ 2098 =
    subst (λ (z : ℕ). z < 2 ^ 2098) whole (lt_of_lt_of_le (mul-lt-mul_of_pos_right {k = 2 ^ 776} room (lit< tt)) (lit≤ tt)) in
    let digits : m * n < 2 ^ 53 = lt_of_lt_of_le (product_lt m n (2 ^ 24) (2 ^ 24) p.digits q.digits) (lit≤ tt) in
    same_value (round binary64 (unlike s t) num den) (unlike s t) num den (w * v) (2 ^ 298) (mul-pos (down_pos e) (down_pos d)) (sym x)
    (round_exact binary64 (unlike s t) num den (m * n) (p.j + q.j + 776) (mul-pos (down_pos e) (down_pos d)) digits fine (y ∙ ap (λ (z : ℕ). z * den) whole))

-- ---- the comparison

eqb_like : (p q a b : ℕ) → (p ≡ q → a ≡ b) → (a ≡ b → p ≡ q) → eqb p q ≡ eqb a b
eqb_like p q a b f g = grind (arith, nat_tests)

scaled_eq : (p q a b c d : ℕ) → 0 < d → p * c ≡ a * d → q * c ≡ b * d → p ≡ q → a ≡ b
scaled_eq p q a b c d D h k e = eq_of_mul-eq-mul_right d D a b (sym h ∙ ap (λ (x : ℕ). x * c) e ∙ k)

-- an equality of numerators stays where both are scaled alike
eqb_scaled : (p q a b c d : ℕ) → 0 < c → 0 < d → p * c ≡ a * d → q * c ≡ b * d → eqb p q ≡ eqb a b
eqb_scaled p q a b c d C D h k = eqb_like p q a b (scaled_eq p q a b c d D h k) (scaled_eq a b p q d c C (sym h) (sym k))

level_scaled : (s t : Bool) (p q a b c d : ℕ) → 0 < c → 0 < d → p * c ≡ a * d → q * c ≡ b * d → level s p t q ≡ level s a t b
level_scaled s t p q a b c d C D h k =
    let x : eqb p q ≡ eqb a b = eqb_scaled p q a b c d C D h k in
    let y : eqb p 0 ≡ eqb a 0 = eqb_scaled p 0 a 0 c d C D h (zero-mul c ∙ sym (zero-mul d)) in
    ap₂ (λ (u v : Bool). u && (beq s t || v)) x y

over : (m c a d h : ℕ) → m * c ≡ a * d → m * h * c ≡ a * (d * h)
over m c a d h e = mul_right_comm m h c ∙ ap (λ (x : ℕ). x * h) e ∙ mul_assoc a d h

pub eq_level : (x y : Float) (s t : Bool) (a b c : ℕ) → 0 < c → HasValue x s a c → HasValue y t b c → eq x y ≡ level s a t b
unfolding eq
eq_level nan y s t a b c C v w = absurd v
eq_level (inf i) y s t a b c C v w = absurd v
eq_level (fin i m e) nan s t a b c C v w = absurd w
eq_level (fin i m e) (inf k) s t a b c C v w = absurd w
eq_level (fin i m e) (fin k n d) s t a b c C v w =
    ap₂ (λ (p q : Bool). level p (m * up e * down d) q (n * up d * down e)) v.0 w.0
    ∙ level_scaled s t (m * up e * down d) (n * up d * down e) a b c (down e * down d) C (mul-pos (down_pos e) (down_pos d))
    (over (m * up e) c a (down e) (down d) v.1)
    (over (n * up d) c b (down d) (down e) w.1 ∙ ap (λ (x : ℕ). b * x) (mul_comm (down d) (down e)))

-- ---- whole numbers with a sign

signed_product : (s t : Bool) (a b : ℕ) → signed s a *ℤ signed t b ≡ signed (unlike s t) (a * b)
signed_product false false a b = refl
signed_product false true a zero = simp mul-zero
signed_product false true a (suc b) = refl
signed_product true false zero b = simp zero-mul
signed_product true false (suc a) b = refl
signed_product true true zero zero = refl
signed_product true true zero (suc b) = simp zero-mul
signed_product true true (suc a) zero = simp mul-zero
signed_product true true (suc a) (suc b) = refl

signed_same : (s t : Bool) (a b : ℕ) → same (signed s a) (signed t b) ≡ level s a t b
signed_same false false a b = grind (arith, nat_tests)
signed_same false true a zero = grind (arith, nat_tests)
signed_same false true a (suc b) = grind (arith, nat_tests)
signed_same true false zero b = grind (arith, nat_tests)
signed_same true false (suc a) b = grind (arith, nat_tests)
signed_same true true zero zero = refl
signed_same true true zero (suc b) = grind (arith, nat_tests)
signed_same true true (suc a) zero = grind (arith, nat_tests)
signed_same true true (suc a) (suc b) = grind (arith, nat_tests)

-- ---- two products

-- the product in binary64 is a whole number of squared units, and which
record Multiplied (x y : Float) : Type 0 where
  sign : Bool
  count : ℕ
  value : HasValue (mul binary64 x y) sign count (2 ^ 298)
  whole : units x *ℤ units y ≡ signed sign count

multiplied : (x y : Float) → T (fits binary32 x) → T (fits binary32 y) → T (float_is_finite x) → T (float_is_finite y) → Multiplied x y
unfolding float_is_finite
multiplied nan y p q f g = absurd f
multiplied (inf s) y p q f g = absurd f
multiplied (fin s m e) nan p q f g = absurd g
multiplied (fin s m e) (inf t) p q f g = absurd g
multiplied (fin s m e) (fin t n d) p q f g =
    let k : Counted m e = counted s m e p in
    let l : Counted n d = counted t n d q in
    record {
      sign = unlike s t;
      count = m * 2 ^ k.j * (n * 2 ^ l.j);
      value = product s m e t n d k l;
      whole = ap₂ (λ (a b : ℤ). a *ℤ b) (units_are s m e k) (units_are t n d l) ∙ signed_product s t (m * 2 ^ k.j) (n * 2 ^ l.j);
    }

pub products_compare : (x y z w : Float) → T (fits binary32 x) → T (fits binary32 y) → T (fits binary32 z) → T (fits binary32 w)
    → T (float_is_finite x) → T (float_is_finite y) → T (float_is_finite z) → T (float_is_finite w)
    → eq (mul binary64 x y) (mul binary64 z w) ≡ same (units x *ℤ units y) (units z *ℤ units w)
products_compare x y z w p q r u f g h k =
    let a : Multiplied x y = multiplied x y p q f g in
    let b : Multiplied z w = multiplied z w r u h k in
    eq_level (mul binary64 x y) (mul binary64 z w) a.sign b.sign a.count b.count (2 ^ 298) (lit< tt) a.value b.value
    ∙ sym (signed_same a.sign b.sign a.count b.count)
    ∙ sym (ap₂ same a.whole b.whole)

-- ---- what the test in binary64 says of a matrix

pub all_four : (a b c d : Float) → (float_is_finite a && float_is_finite b && float_is_finite c && float_is_finite d) ≡ list_all float_is_finite (a ∷ b ∷ c ∷ d ∷ [])
all_four a b c d = simp (and_assoc, and-true)

pub not_finite : (a b c d : Float) → (float_is_finite a && float_is_finite b && float_is_finite c && float_is_finite d) ≡ false → invertible a b c d ≡ false
unfolding invertible
not_finite a b c d e = ap (λ (x : Bool). x && not (same (units a *ℤ units d) (units b *ℤ units c))) e

holds : {b : Bool} → b ≡ true → T b
holds e = subst T (sym e) tt

pub decides : (a b c d : Float) → fits binary32 a ≡ true → fits binary32 b ≡ true → fits binary32 c ≡ true → fits binary32 d ≡ true
    → (float_is_finite a && float_is_finite b && float_is_finite c && float_is_finite d) ≡ true → ne (mul binary64 a d) (mul binary64 b c) ≡ invertible a b c d
unfolding invertible ne
decides a b c d p q r u e =
    let abcd : T (float_is_finite a && float_is_finite b && float_is_finite c && float_is_finite d) = holds e in
    let abc : T (float_is_finite a && float_is_finite b && float_is_finite c) = and_l (float_is_finite a && float_is_finite b && float_is_finite c) (float_is_finite d) abcd in
    let ab : T (float_is_finite a && float_is_finite b) = and_l (float_is_finite a && float_is_finite b) (float_is_finite c) abc in
    let fa : T (float_is_finite a) = and_l (float_is_finite a) (float_is_finite b) ab in
    let fb : T (float_is_finite b) = and_r (float_is_finite a) (float_is_finite b) ab in
    let fc : T (float_is_finite c) = and_r (float_is_finite a && float_is_finite b) (float_is_finite c) abc in
    let fd : T (float_is_finite d) = and_r (float_is_finite a && float_is_finite b && float_is_finite c) (float_is_finite d) abcd in
    ap not (products_compare a d b c (holds p) (holds u) (holds q) (holds r) fa fd fb fc)
    ∙ sym (ap (λ (x : Bool). x && not (same (units a *ℤ units d) (units b *ℤ units c))) e)
