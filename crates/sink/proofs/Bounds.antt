-- Scripts that keep to the depth and to a limit of places. Assumes nothing.
use Rattle.std.proofs.Common.{◌≡◌, ℕ, zero, suc, ◌+◌, ◌<◌, ◌≤◌, false, leb, List, [], ◌∷◌, ◌++◌, length, take, replicate, ℤ, pos, negsuc, refl, ◌∙◌, subst, ⊎_elim, append_assoc, arith, length-append}
use lib.Signed.{lt_z}
use Rattle.std.proofs.lemmas.Bool.Decides.{nat_tests}
use Rattle.std.proofs.lemmas.Bool.{cases_lt}
use Rattle.std.proofs.lemmas.List.{append-nil, take_all, take-append-le, take_at}
use Rattle.record.specs.declared.Group.{Group}
use Rattle.record.specs.declared.Mark.{Mark}
use Rattle.record.specs.Records.{Record}
use Rattle.record.specs.declared.Event.TheVariants as variants
use Rattle.sink.specs.Script.{places, level}
use Rattle.sink.specs.Meaning.{Limit, most_open, exceeds}
use Rattle.sink.specs.Bounds.{Shallow}
use Rattle.sink.proofs.Counting.{opens_append, closes_append, places_append, level_close}

exceeds_less : (z : ℤ) (a b : ℕ) → a ≤ b → lt_z z (pos b) ≡ false → lt_z z (pos a) ≡ false
exceeds_less (pos n) a b le e = grind (arith, nat_tests)
exceeds_less (negsuc n) a b le e = let z : ◌≡◌ {A = ℕ} 0 1 = cc in absurd (omega arith)

pub fewer : (limit : Limit) (a b : ℕ) → a ≤ b → exceeds b limit ≡ false → exceeds a limit ≡ false
fewer limit a b le e = exceeds_less limit.number a b le e

pub shallow_push : (s : List Record) (r : Record) → Shallow s → level (s ++ r ∷ []) ≤ most_open → Shallow (s ++ r ∷ [])
shallow_push s r below here n = ⊎_elim past before (cases_lt (length s) n)
  where
    past : length s < n → level (take n (s ++ r ∷ [])) ≤ most_open
    past more = rw (take_all n (s ++ r ∷ []) (simp length-append (omega arith))) here

    before : n ≤ length s → level (take n (s ++ r ∷ [])) ≤ most_open
    before less = rw (take-append-le n s (r ∷ []) less) (below n)

-- the script before a record, and with it, is as deep as the whole is
pub shallow_at : (s t : List Record) → Shallow (s ++ t) → level s ≤ most_open
shallow_at s t below = let e = take_at s t (length s) refl in subst (λ u. level u ≤ most_open) e (below (length s))

-- what holds of the script in a sink that takes records
abbrev pub Fine : Limit → List Record → Type 0
Fine limit s = Shallow s × (exceeds (places s) limit ≡ false)

pub fine_close : (limit : Limit) (s : List Record) → Fine limit s → Fine limit (s ++ variants.Close ∷ [])
fine_close limit s fine =
    let low = shallow_at s [] (rw (append-nil s) fine.0) in
    let lv = level_close s in
    let p : places (s ++ variants.Close ∷ []) ≡ places s = places_append s (variants.Close ∷ []) ∙ omega arith in
    (shallow_push s variants.Close fine.0 (omega (arith, lv, low)), rw p fine.1)

pub fine_closes : (limit : Limit) (n : ℕ) (s : List Record) → Fine limit s → Fine limit (s ++ replicate n variants.Close)
fine_closes limit zero s fine = rw (append-nil s) fine
fine_closes limit (suc n) s fine =
    let e = append_assoc s (variants.Close ∷ []) (replicate n variants.Close) in
    subst (Fine limit) e (fine_closes limit n (s ++ variants.Close ∷ []) (fine_close limit s fine))

-- one more group is open, and two more places are used
pub fine_open : (limit : Limit) (s : List Record) (g : Group) → Fine limit s → leb most_open (level s) ≡ false → exceeds (places s + 2) limit ≡ false → Fine limit (s ++ variants.Open g ∷ [])
fine_open limit s g fine deep room =
    let o = opens_append s (variants.Open g ∷ []) in
    let c = closes_append s (variants.Open g ∷ []) in
    let low : level s < most_open = grind (arith, nat_tests) in
    let p : places (s ++ variants.Open g ∷ []) ≡ places s + 2 = places_append s (variants.Open g ∷ []) in
    (shallow_push s (variants.Open g) fine.0 (omega (arith, o, c, low)), rw p room)

pub nothing_shallow : Shallow []
nothing_shallow zero = omega arith
nothing_shallow (suc n) = omega arith

pub fine_nothing : (limit : Limit) → exceeds 0 limit ≡ false → Fine limit []
fine_nothing limit room = (nothing_shallow, room)

-- a mark more uses a place more
pub fine_mark : (limit : Limit) (s : List Record) (k : Mark) → Fine limit s → exceeds (places s + 1) limit ≡ false → Fine limit (s ++ variants.Mark k ∷ [])
fine_mark limit s k fine room =
    let o = opens_append s (variants.Mark k ∷ []) in
    let c = closes_append s (variants.Mark k ∷ []) in
    let low = shallow_at s [] (rw (append-nil s) fine.0) in
    let p : places (s ++ variants.Mark k ∷ []) ≡ places s + 1 = places_append s (variants.Mark k ∷ []) in
    (shallow_push s (variants.Mark k) fine.0 (omega (arith, o, c, low)), rw p room)
