-- A list of records is accepted exactly when the sink's meaning takes it. Assumes nothing.
use Rattle.std.proofs.Common.{◌≡◌, ℕ, zero, suc, ◌+◌, ◌≤◌, true, false, not, eqb, leb, List, [], ◌∷◌, ◌++◌, map, length, Some, Ok, sym, refl, ap, ◌∙◌, subst, append_assoc, arith}
use Rattle.std.specs.List.{AllByRecursion}
use Rattle.std.proofs.lemmas.Bool.Decides.{nat_tests}
use Rattle.std.proofs.lemmas.List.{append-nil}
use Rattle.picture.specs.Script.{open_after}
use Rattle.picture.proofs.Scripts.{balanced_from_count, count_from_balanced}
use Rattle.record.specs.declared.Group.{Group}
use Rattle.record.specs.Records.{Record}
use Rattle.record.specs.declared.Event.TheVariants as variants
use Rattle.record.specs.Good.{good_record}
use Rattle.record.specs.Zero.{zeroed_group, zeroed_mark}
use Rattle.sink.specs.Script.{opens, closes, places, level}
use Rattle.sink.specs.Base.{base_opened, base_closed}
use Rattle.sink.specs.Meaning.{Meaning, Limit, most_open, exceeds, rewritten, entered}
use Rattle.sink.specs.Calls.{open_all, with_script, begin_step, close_step, end_step}
use Rattle.sink.proofs.Outcomes.{check_passed}
use Rattle.sink.proofs.Counting.{opens_append, closes_append, places_append}
use Rattle.sink.proofs.Bounds.{Fine, fewer, shallow_at, fine_close, fine_closes}
use Rattle.sink.proofs.Begins.{begin_ok, begin_fine, base_opens, base_no_closes}
use Rattle.sink.proofs.Passing.{open_tells, mark_tells}
use Rattle.feed.specs.declared.Stage.TheVariants as stages
use Rattle.feed.specs.Feeding.{record_step, go_on, fed_from, fed}
use Rattle.feed.specs.Whole.{whole_script}
use Rattle.feed.specs.Accepting.{events, Accepts}
use Rattle.feed.proofs.Wholes.{record_ok, go_ok}

-- ---- the base

open_all_takes : (limit : Limit) (gs : List Group) (t rest : List Record) → closes t ≤ opens t → Fine limit (t ++ (map (λ h. variants.Open h) (map zeroed_group gs) ++ rest)) → open_all limit gs t ≡ Ok (t ++ map (λ h. variants.Open h) (map zeroed_group gs))
open_all_takes limit [] t rest bal fine = ap (λ s. Ok s) (sym (append-nil t))
open_all_takes limit (g ∷ gs) t rest bal fine =
    let x = variants.Open (zeroed_group g) in
    let later = map (λ h. variants.Open h) (map zeroed_group gs) in
    let u = t ++ x ∷ [] in
    let whole : t ++ (x ∷ (later ++ rest)) ≡ u ++ (later ++ rest) = sym (append_assoc t (x ∷ []) (later ++ rest)) in
    let now = subst (Fine limit) whole fine in
    let o = opens_append t (x ∷ []) in
    let c = closes_append t (x ∷ []) in
    let low = shallow_at u (later ++ rest) now.0 in
    let deep : leb most_open (level t) ≡ false = grind (arith, nat_tests, o, c, low, bal) in
    let used = places_append t (x ∷ []) in
    let all = places_append u (later ++ rest) in
    let room = fewer limit (places t + 2) (places (u ++ (later ++ rest))) (omega (arith, used, all)) now.1 in
    let rest_is = open_all_takes limit gs u rest (omega (arith, o, c, bal)) now in
    rw (deep, room) (rest_is ∙ ap (λ s. Ok s) (append_assoc t (x ∷ []) later))

begin_takes : (m : Meaning) (rest : List Record) → Fine m.limit (base_opened m.base ++ rest) → (begin_step m).result ≡ Ok tt
begin_takes m rest fine =
    let room = fewer m.limit 0 (places (base_opened m.base ++ rest)) (omega arith) fine.1 in
    let base = open_all_takes m.limit m.base.groups [] rest (omega arith) fine in
    rw (room, base) refl

-- ---- one record

step_back : (i : ℕ) (r : Record) (rs : List Record) (m : Meaning) (u : Unit {0}) → (fed_from i (r ∷ rs) m).result ≡ Ok u
    → ((record_step m r).result ≡ Ok tt) × ((fed_from (suc i) rs (with_script m (m.script ++ entered m.rewriting r ∷ []) true)).result ≡ Ok u)
unfolding fed_from
step_back i r rs m u e =
    let o = record_step m r in
    let p = go_ok (stages.Record i) o.result o.next (fed_from (suc i) rs) u e in
    (p.0, ap (λ n. (fed_from (suc i) rs n).result) (sym (record_ok m r tt p.0)) ∙ ap (λ k. k.result) (sym p.1) ∙ e)

step_on : (i : ℕ) (r : Record) (rs : List Record) (m : Meaning) (u : Unit {0}) → (record_step m r).result ≡ Ok tt
    → (fed_from (suc i) rs (with_script m (m.script ++ entered m.rewriting r ∷ []) true)).result ≡ Ok u → (fed_from i (r ∷ rs) m).result ≡ Ok u
unfolding fed_from
step_on i r rs m u now later =
    ap (λ a. (go_on (stages.Record i) a (record_step m r).next (fed_from (suc i) rs)).result) now ∙ ap (λ n. (fed_from (suc i) rs n).result) (record_ok m r tt now) ∙ later

end_back : (i : ℕ) (m : Meaning) (u : Unit {0}) → (fed_from i [] m).result ≡ Ok u → (end_step m).result ≡ Ok tt
unfolding fed_from
end_back i m u e = (go_ok stages.End (end_step m).result (end_step m).next (λ n. record { result = Ok tt; next = n }) u e).0

end_on : (i : ℕ) (m : Meaning) → (end_step m).result ≡ Ok tt → (fed_from i [] m).result ≡ Ok tt
unfolding fed_from
end_on i m now = ap (λ a. (go_on stages.End a (end_step m).next (λ n. record { result = Ok tt; next = n })).result) now

end_alone : (m : Meaning) (u : Unit {0}) → (end_step m).result ≡ Ok u → not (eqb (level m.script) (length m.base.groups)) ≡ false
end_alone m u e = (check_passed m m false _ _ _ _ u (check_passed m m false _ _ _ _ u e).1).0

close_beyond : (m : Meaning) (u : Unit {0}) → (close_step m).result ≡ Ok u → leb (level m.script) (length m.base.groups) ≡ false
close_beyond m u e = (check_passed m m true _ _ _ _ u (check_passed m m true _ _ _ _ u e).1).0

-- ---- what an accepted list is

-- d groups are open beyond the base
abbrev OpenAt : Meaning → ℕ → Type 0
OpenAt m d = opens m.script ≡ closes m.script + (length m.base.groups + d)

abbrev Told : Meaning → ℕ → List Record → Type 0
Told m d rs = AllByRecursion (λ r. good_record r ≡ true) rs × (open_after d (events rs) ≡ Some 0) × Fine m.limit (m.script ++ (map (entered m.rewriting) rs ++ base_closed m.base))

told_more : (m : Meaning) (d e : ℕ) (r : Record) (rs : List Record) → good_record r ≡ true → open_after d (events (r ∷ rs)) ≡ open_after e (events rs)
    → Told (with_script m (m.script ++ entered m.rewriting r ∷ []) true) e rs → Told m d (r ∷ rs)
told_more m d e r rs good step told =
    ((good, told.0), step ∙ told.1, subst (Fine m.limit) (append_assoc m.script (entered m.rewriting r ∷ []) _) told.2)

fed_from_tells : (i : ℕ) (rs : List Record) (m : Meaning) (d : ℕ) (u : Unit {0}) → OpenAt m d → Fine m.limit m.script → (fed_from i rs m).result ≡ Ok u → Told m d rs
fed_from_tells i [] m d u at fine e =
    let p = end_back i m u e in
    let alone : not (eqb (level m.script) (length m.base.groups)) ≡ false = end_alone m tt p in
    let none : d ≡ 0 = grind (arith, nat_tests, alone, at) in
    (tt, ap (λ k. Some k) none, fine_closes m.limit (length m.base.groups) m.script fine)
fed_from_tells i (variants.Open g ∷ rs) m d u at fine e =
    let p = step_back i (variants.Open g) rs m u e in
    let now = open_tells m g tt p.0 fine in
    let o = opens_append m.script (variants.Open (rewritten m.rewriting g) ∷ []) in
    let c = closes_append m.script (variants.Open (rewritten m.rewriting g) ∷ []) in
    told_more m d (suc d) (variants.Open g) rs now.0 refl (fed_from_tells (suc i) rs _ (suc d) u (omega (arith, o, c, at)) now.1 p.1)
fed_from_tells i (variants.Mark k ∷ rs) m d u at fine e =
    let p = step_back i (variants.Mark k) rs m u e in
    let now = mark_tells m k tt p.0 fine in
    let o = opens_append m.script (variants.Mark (zeroed_mark k) ∷ []) in
    let c = closes_append m.script (variants.Mark (zeroed_mark k) ∷ []) in
    told_more m d d (variants.Mark k) rs now.0 refl (fed_from_tells (suc i) rs _ d u (omega (arith, o, c, at)) now.1 p.1)
fed_from_tells i (variants.Close ∷ rs) m zero u at fine e =
    let p = step_back i variants.Close rs m u e in
    let beyond : leb (level m.script) (length m.base.groups) ≡ false = close_beyond m tt p.0 in
    absurd (grind (arith, nat_tests, beyond, at))
fed_from_tells i (variants.Close ∷ rs) m (suc d) u at fine e =
    let p = step_back i variants.Close rs m u e in
    let o = opens_append m.script (variants.Close ∷ []) in
    let c = closes_append m.script (variants.Close ∷ []) in
    told_more m (suc d) d variants.Close rs refl refl (fed_from_tells (suc i) rs _ d u (omega (arith, o, c, at)) (fine_close m.limit m.script fine) p.1)

-- ---- such a list is accepted

-- the whole with the next record already in the script
moved : (limit : Limit) (s t : List Record) (r : Record) → Fine limit (s ++ (r ∷ t)) → Fine limit ((s ++ r ∷ []) ++ t)
moved limit s t r fine = subst (Fine limit) (sym (append_assoc s (r ∷ []) t)) fine

room_for : (limit : Limit) (s t : List Record) (n : ℕ) → n ≤ places s → Fine limit (s ++ t) → exceeds n limit ≡ false
room_for limit s t n le fine = let p = places_append s t in fewer limit n (places (s ++ t)) (omega (arith, p)) fine.1

fed_from_takes : (i : ℕ) (rs : List Record) (m : Meaning) (d : ℕ) → m.turn ≡ true → OpenAt m d → Told m d rs → (fed_from i rs m).result ≡ Ok tt
fed_from_takes i [] m d on at told =
    let counted = told.1 in
    let none : d ≡ 0 = cc in
    let alone : eqb (level m.script) (length m.base.groups) ≡ true = grind (arith, nat_tests, at, none) in
    end_on i m (rw (on, alone) refl)
fed_from_takes i (variants.Open g ∷ rs) m d on at told =
    let s = m.script in
    let r = variants.Open (rewritten m.rewriting g) in
    let o = opens_append s (r ∷ []) in
    let c = closes_append s (r ∷ []) in
    let p = places_append s (r ∷ []) in
    let fine = moved m.limit s _ r told.2 in
    let low = shallow_at (s ++ r ∷ []) _ fine.0 in
    let deep : leb most_open (level s) ≡ false = grind (arith, nat_tests, o, c, low, at) in
    let room = room_for m.limit (s ++ r ∷ []) _ (places s + 2) (omega (arith, p)) fine in
    step_on i (variants.Open g) rs m tt (rw (on, told.0.0, deep, room) refl)
    (fed_from_takes (suc i) rs (with_script m (s ++ r ∷ []) true) (suc d) refl (omega (arith, o, c, at)) (told.0.1, told.1, fine))
fed_from_takes i (variants.Mark k ∷ rs) m d on at told =
    let s = m.script in
    let r = variants.Mark (zeroed_mark k) in
    let o = opens_append s (r ∷ []) in
    let c = closes_append s (r ∷ []) in
    let p = places_append s (r ∷ []) in
    let fine = moved m.limit s _ r told.2 in
    let room = room_for m.limit (s ++ r ∷ []) _ (places s + 1) (omega (arith, p)) fine in
    step_on i (variants.Mark k) rs m tt (rw (on, told.0.0, room) refl)
    (fed_from_takes (suc i) rs (with_script m (s ++ r ∷ []) true) d refl (omega (arith, o, c, at)) (told.0.1, told.1, fine))
fed_from_takes i (variants.Close ∷ rs) m zero on at told = let counted = told.1 in let z : ◌≡◌ {A = ℕ} 0 1 = cc in absurd (omega arith)
fed_from_takes i (variants.Close ∷ rs) m (suc d) on at told =
    let s = m.script in
    let r = variants.Close in
    let o = opens_append s (r ∷ []) in
    let c = closes_append s (r ∷ []) in
    let beyond : leb (level s) (length m.base.groups) ≡ false = grind (arith, nat_tests, at) in
    step_on i variants.Close rs m tt (rw (on, beyond) refl)
    (fed_from_takes (suc i) rs (with_script m (s ++ r ∷ []) true) d refl (omega (arith, o, c, at)) (told.0.1, told.1, moved m.limit s _ r told.2))

-- ---- both ways

base_at : (m : Meaning) → OpenAt (with_script m (base_opened m.base) true) 0
base_at m = omega (arith, base_opens m.base.groups, base_no_closes m.base.groups)

pub accepted_is_taken : (m : Meaning) (rs : List Record) → (fed m rs).result ≡ Ok tt → Accepts m rs
accepted_is_taken m rs e =
    let o = begin_step m in
    let p = go_ok stages.Begin o.result o.next (fed_from 0 rs) tt e in
    let later = ap (λ n. (fed_from 0 rs n).result) (sym (begin_ok m tt p.0)) ∙ ap (λ k. k.result) (sym p.1) ∙ e in
    let told = fed_from_tells 0 rs (with_script m (base_opened m.base) true) 0 tt (base_at m) (begin_fine m tt p.0) later in
    record { good = told.0; balanced = balanced_from_count (events rs) told.1; shallow = told.2.0; within = told.2.1 }

pub taken_is_accepted : (m : Meaning) (rs : List Record) → Accepts m rs → (fed m rs).result ≡ Ok tt
taken_is_accepted m rs a =
    let fine : Fine m.limit (whole_script m rs) = (a.shallow, a.within) in
    let begun = begin_takes m _ fine in
    ap (λ r. (go_on stages.Begin r (begin_step m).next (fed_from 0 rs)).result) begun
    ∙ ap (λ n. (fed_from 0 rs n).result) (begin_ok m tt begun)
    ∙ fed_from_takes 0 rs (with_script m (base_opened m.base) true) 0 refl (base_at m) (a.good, count_from_balanced a.balanced, fine)
