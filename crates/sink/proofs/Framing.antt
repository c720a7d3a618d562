-- What `Framed` does by calls of the sink below is what its own meaning says. Assumes nothing.
use Rattle.std.proofs.Common.{◌≡◌, ℕ, suc, ◌-◌, ◌<◌, Bool, true, false, cond, not, eqb, leb, List, [], ◌∷◌, ◌++◌, length, replicate, is_err, Some, None, Ok, Err, Option, Result, sym, refl, ap, ◌∙◌, subst, append_assoc, arith, length-append}
use mathlib.Core.Path.{fun_ext}
use mathlib.Core.Bool.{Bool-set}
use Rattle.std.specs.Option.{option_eq}
use Rattle.std.proofs.lemmas.Bool.Decides.{nat_tests}
use Rattle.std.proofs.lemmas.Bool.{eqb-true, not-false}
use Rattle.refusal.specs.Order.{first_of, unless}
use Rattle.record.specs.declared.Group.{Group}
use Rattle.record.specs.declared.Mark.{Mark}
use Rattle.record.specs.Records.{Record}
use Rattle.record.specs.declared.Event.TheVariants as variants
use Rattle.record.specs.Good.{good_group}
use Rattle.record.specs.Zero.{zeroed_group}
use Rattle.sink.specs.declared.fault.SinkFault.{SinkFault}
use Rattle.sink.specs.declared.fault.SinkFault.TheVariants.{OutOfTurn, NoPlaces}
use Rattle.sink.specs.Script.{level}
use Rattle.sink.specs.Zeroed.{group_twice}
use Rattle.sink.specs.Meaning.{Meaning, Limit, exceeds, rewritten}
use Rattle.sink.specs.Calls.{Outcome, Tried, then, room_checks, open_all, settle, cleared, with_script, begin_step, open_step, mark_step, close_step, end_step, depth_of}
use Rattle.sink.specs.Layers.{framed}
use Rattle.sink.proofs.Outcomes.{Is, ok_not_err, then_none, then_then}
use Rattle.sink.proofs.Counting.{level_close}

-- one more group of a base is opened
abbrev opened : Limit → Group → List Record → Tried
opened limit h s = unless (first_of (room_checks limit s)) (s ++ variants.Open h ∷ [])

pub open_all_push : (limit : Limit) (gs : List Group) (h : Group) (s : List Record) → open_all limit (gs ++ h ∷ []) s ≡ then (open_all limit gs s) (opened limit (zeroed_group h))
open_all_push limit [] h s = then_none (opened limit (zeroed_group h) s)
open_all_push limit (g ∷ gs) h s =
    ap (then (opened limit (zeroed_group g) s)) (fun_ext (λ u. open_all_push limit gs h u))
    ∙ sym (then_then (opened limit (zeroed_group g) s) (open_all limit gs) (opened limit (zeroed_group h)))

-- the layer's answer r and the sink's meaning n below it are those of the outcome, whatever shows that the group is good
abbrev pub Over : Group → Result (Unit {0}) SinkFault → Meaning → Outcome → Type 0
Over g r n o = (r ≡ o.result) × ((good : good_group g ≡ true) → framed g good n ≡ o.next)

module _ (g : Group) (good : good_group g ≡ true) where
  framed_same : (also : good_group g ≡ true) (m : Meaning) → framed g also m ≡ framed g good m
  framed_same also m = ap (λ e. framed g e m) (Bool-set (good_group g) true also good)

  over : (r : Result (Unit {0}) SinkFault) (n : Meaning) (o : Outcome) → Is r (framed g good n) o → Over g r n o
  over r n o is = (is.0, λ also. framed_same also n ∙ is.1)

  settled : (m : Meaning) (t : Bool) (to : Tried) → let o = settle m m t to in Over g o.result o.next (settle (framed g good m) (framed g good m) t to)
  settled m t (Ok s) = over (Ok tt) (with_script m s t) _ (refl, refl)
  settled m t (Err f) = over (Err f) m _ (refl, refl)

  pub clear_framed : (m n : Meaning) (also : good_group g ≡ true) → n ≡ cleared m → framed g also n ≡ cleared (framed g good m)
  clear_framed m n also is = framed_same also n ∙ ap (framed g good) is

  pub open_framed : (m n : Meaning) (h : Group) (r : Result (Unit {0}) SinkFault) → Is r n (open_step m h) → Over g r n (open_step (framed g good m) h)
  open_framed m n h r is = rw (is.0, is.1) (settled m true _)

  pub mark_framed : (m n : Meaning) (k : Mark) (r : Result (Unit {0}) SinkFault) → Is r n (mark_step m k) → Over g r n (mark_step (framed g good m) k)
  mark_framed m n k r is = rw (is.0, is.1) (settled m true _)

-- ---- begin

-- the base opened in an empty script
abbrev begun : Meaning → Tried
begun m = then (unless (first_of ((exceeds 0 m.limit, NoPlaces) ∷ [])) []) (open_all m.limit m.base.groups)

-- after the group is opened, or refused and the sink below cleared
abbrev pub kept : Result (Unit {0}) SinkFault → Meaning → Meaning
kept (Ok u) n = n
kept (Err f) n = cleared n

pub kept_ok : (q : Result (Unit {0}) SinkFault) (p : Meaning) → false ≡ is_err q → p ≡ kept q p
kept_ok (Ok u) p e = refl
kept_ok (Err f) p e = let z : ◌≡◌ {A = ℕ} 0 1 = cc in absurd (omega arith)

pub kept_err : (q : Result (Unit {0}) SinkFault) (p : Meaning) → true ≡ is_err q → cleared p ≡ kept q p
kept_err (Ok u) p e = let z : ◌≡◌ {A = ℕ} 0 1 = cc in absurd (omega arith)
kept_err (Err f) p e = refl

module _ (g : Group) (good : good_group g ≡ true) where
  begun_framed : (m : Meaning) → begun (framed g good m) ≡ then (begun m) (opened m.limit (rewritten m.rewriting g))
  begun_framed m =
      let h = rewritten m.rewriting g in
      let start = unless (first_of ((exceeds 0 m.limit, NoPlaces) ∷ [])) [] in
      ap (then start) (fun_ext (λ s. open_all_push m.limit m.base.groups h s))
      ∙ sym (then_then start (open_all m.limit m.base.groups) (opened m.limit (zeroed_group h)))
      ∙ ap (λ k. then (begun m) (opened m.limit k)) (group_twice (m.rewriting.apply (zeroed_group g)))

  begin_framed : (m n : Meaning) (r : Result (Unit {0}) SinkFault)
      → let f = framed g good m in Over g r n (settle (cleared f) f true (then (begun m) (opened m.limit (rewritten m.rewriting g)))) → Over g r n (begin_step f)
  begin_framed m n r is = let f = framed g good m in subst (λ t. Over g r n (settle (cleared f) f true t)) (sym (begun_framed m)) is

  refused_at : (m : Meaning) (t : Tried) (next : List Record → Tried) (f : SinkFault) → (settle (cleared m) m true t).result ≡ Err f
      → Over g (Err f) (settle (cleared m) m true t).next (settle (cleared (framed g good m)) (framed g good m) true (then t next))
  refused_at m (Ok s) next f e = ok_not_err tt f e
  refused_at m (Err d) next f e = over g good (Err f) (cleared m) _ (sym e, refl)

  pub begin_refused : (m n : Meaning) (r : Result (Unit {0}) SinkFault) (f : SinkFault) → r ≡ Err f → Is r n (begin_step m) → Over g (Err f) n (begin_step (framed g good m))
  begin_refused m n r f was is =
      begin_framed m n (Err f) (rw is.1 (refused_at m (begun m) (opened m.limit (rewritten m.rewriting g)) f (sym is.0 ∙ was)))

  placed_at : (m n : Meaning) (t : Tried) → cleared n ≡ cleared m
      → let o = settle n n true t in Over g o.result (kept o.result o.next) (settle (cleared (framed g good m)) (framed g good m) true t)
  placed_at m n (Ok s) e = over g good (Ok tt) (with_script n s true) _ (refl, ap (λ k. with_script (framed g good k) s true) e)
  placed_at m n (Err f) e = over g good (Err f) (cleared n) _ (refl, ap (framed g good) e)

  -- the group is good, so the open finds room or not
  open_good : (m : Meaning) (s : List Record)
      → open_step (with_script m s true) g ≡ settle (with_script m s true) (with_script m s true) true (opened m.limit (rewritten m.rewriting g) s)
  open_good m s = rw good refl

  opened_at : (m : Meaning) (t : Tried) (u : Unit {0}) → (settle (cleared m) m true t).result ≡ Ok u
      → let o = open_step (settle (cleared m) m true t).next g in Over g o.result (kept o.result o.next) (settle (cleared (framed g good m)) (framed g good m) true (then t (opened m.limit (rewritten m.rewriting g))))
  opened_at m (Ok s) u e = rw (open_good m s) (placed_at m (with_script m s true) (opened m.limit (rewritten m.rewriting g) s) refl)
  opened_at m (Err f) u e = ok_not_err u f (sym e)

  pub begin_opened : (m n p k : Meaning) (r q : Result (Unit {0}) SinkFault) (u : Unit {0}) → r ≡ Ok u → Is r n (begin_step m) → Is q p (open_step n g) → k ≡ kept q p
      → Over g q k (begin_step (framed g good m))
  begin_opened m n p k r q u was is then_is left =
      begin_framed m k q (rw (left, then_is.0, then_is.1, is.1) (opened_at m (begun m) u (sym is.0 ∙ was)))

-- ---- depth

pub one_open : (depth : Option ℕ) → false ≡ not (option_eq eqb depth (Some 1)) → depth ≡ Some 1
one_open None e = let z : ◌≡◌ {A = ℕ} 0 1 = cc in absurd (omega arith)
one_open (Some d) e = let same : d ≡ 1 = eqb-true d 1 (not-false _ (sym e)) in ap (λ k. Some k) same

some_at : (b : Bool) (k d : ℕ) → Some d ≡ cond b (Some k) None → (b ≡ true) × (d ≡ k)
some_at true k d e = (refl, cc)
some_at false k d e = let z : ◌≡◌ {A = ℕ} 0 1 = cc in absurd (omega arith)

depth_some : (m : Meaning) (d : ℕ) → Some d ≡ depth_of m → (m.turn ≡ true) × (d ≡ level m.script - length m.base.groups)
depth_some m d e = some_at m.turn _ d e

module _ (g : Group) (good : good_group g ≡ true) where
  -- the base is longer by one
  longer : (m : Meaning) → length (framed g good m).base.groups ≡ suc (length m.base.groups)
  longer m = simp length-append (omega arith)

  -- ---- close and end

  pub close_deep : (m n : Meaning) (d : ℕ) (r : Result (Unit {0}) SinkFault) → Some d ≡ depth_of m → 1 < d → Is r n (close_step m) → Over g r n (close_step (framed g good m))
  close_deep m n d r e high is =
      let p = depth_some m d e in
      let base = longer m in
      let same : leb (level m.script) (length (framed g good m).base.groups) ≡ leb (level m.script) (length m.base.groups) = grind (arith, nat_tests, p.1) in
      rw (is.0, is.1, same) (settled g good m true _)

  closed_at : (m n : Meaning) (b c : Bool) (s : List Record) → b ≡ false → c ≡ false
      → n ≡ (settle m m true (unless (first_of ((b, OutOfTurn) ∷ (c, OutOfTurn) ∷ [])) s)).next → n ≡ with_script m s true
  closed_at m n false false s e f is = is
  closed_at m n true c s e f is = let z : ◌≡◌ {A = ℕ} 0 1 = cc in absurd (omega arith)
  closed_at m n false true s e f is = let z : ◌≡◌ {A = ℕ} 0 1 = cc in absurd (omega arith)

  ended_at : (m : Meaning) (s t : List Record) (c d e : Bool) → c ≡ false → d ≡ false → e ≡ false
      → let n = with_script m s true in let f = framed g good m in let o = settle n n false (unless (first_of ((c, OutOfTurn) ∷ [])) t) in Over g o.result o.next (settle f f false (unless (first_of ((d, OutOfTurn) ∷ (e, OutOfTurn) ∷ [])) t))
  ended_at m s t false false false x y z = over g good (Ok tt) (with_script m t false) _ (refl, refl)
  ended_at m s t true d e x y z = let w : ◌≡◌ {A = ℕ} 0 1 = cc in absurd (omega arith)
  ended_at m s t false true e x y z = let w : ◌≡◌ {A = ℕ} 0 1 = cc in absurd (omega arith)
  ended_at m s t false false true x y z = let w : ◌≡◌ {A = ℕ} 0 1 = cc in absurd (omega arith)

  pub end_alone : (m n p : Meaning) (r q : Result (Unit {0}) SinkFault) → Some 1 ≡ depth_of m → Is r n (close_step m) → Is q p (end_step n)
      → Over g q p (end_step (framed g good m))
  end_alone m n p r q e is then_is =
      let k = depth_some m 1 e in
      let base = longer m in
      let lv = level_close m.script in
      let on : not m.turn ≡ false = ap not k.0 in
      let passes : leb (level m.script) (length m.base.groups) ≡ false = grind (arith, nat_tests, k.1) in
      let at : n ≡ with_script m (m.script ++ variants.Close ∷ []) true = closed_at m n _ _ _ on passes is.1 in
      let below : not (eqb (level (m.script ++ variants.Close ∷ [])) (length m.base.groups)) ≡ false = grind (arith, nat_tests, k.1, lv) in
      let above : not (eqb (level m.script) (length (framed g good m).base.groups)) ≡ false = grind (arith, nat_tests, k.1) in
      let all : m.script ++ replicate (length (framed g good m).base.groups) variants.Close ≡ (m.script ++ variants.Close ∷ []) ++ replicate (length m.base.groups) variants.Close = rw (base, append_assoc) refl in
      rw (then_is.0, then_is.1, at, all) (ended_at m (m.script ++ variants.Close ∷ []) ((m.script ++ variants.Close ∷ []) ++ replicate (length m.base.groups) variants.Close) _ _ _ below on above)
