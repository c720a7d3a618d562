-- The laws of the calls of every sink. Assumes nothing.
use Rattle.std.proofs.Common.{◌≡◌, ℕ, ◌+◌, ◌≤◌, Bool, true, false, eqb, leb, ◌⊎◌, List, [], ◌∷◌, ◌++◌, length, Some, None, Ok, Err, Option, sym, refl, ap, ◌∙◌, inl, inr, ⊎_elim, arith}
use Rattle.std.proofs.lemmas.Bool.{and_parts, eqb-true, not-false}
use Rattle.std.proofs.lemmas.Bool.Decides.{nat_tests}
use Rattle.geom.specs.declared.matrix.Matrix.{Matrix}
use Rattle.geom.specs.declared.rect.Rect.{Rect}
use Rattle.record.specs.declared.Group.{Group}
use Rattle.record.specs.declared.Mark.{Mark}
use Rattle.record.specs.declared.Event.TheVariants as variants
use Rattle.record.specs.Good.{good_group, good_mark}
use Rattle.record.specs.Zero.{zeroed_matrix, zeroed_rect, zeroed_clip, zeroed_group, zeroed_ruler, zeroed_mark}
use Rattle.sink.specs.declared.fault.SinkFault.{SinkFault}
use Rattle.sink.specs.Script.{opens, closes, level}
use Rattle.sink.specs.Zeroed.{group_good, mark_good}
use Rattle.sink.specs.Equal.{equal, equal_matrix, equal_clip, equal_group, equal_ruler, equal_mark}
use Rattle.sink.specs.Meaning.{Meaning, rewritten}
use Rattle.sink.specs.Calls.{Tried, settle, cleared, with_script, begin_step, open_step, mark_step, close_step, end_step}
use Rattle.sink.specs.Laws.{Call, step, run, Bounded, CallsKeepLimitBaseAndRewriting, RefusedCallsChangeNothing, EqualGroupsDoTheSame, EqualMarksDoTheSame, RunsStayBounded}
use Rattle.sink.specs.Laws.Call.{clearing, beginning, opening, marking, closing, ending}
use Rattle.sink.proofs.Outcomes.{ok_not_err, check_passed, checked_ok}
use Rattle.sink.proofs.Counting.{opens_append, closes_append}
use Rattle.sink.proofs.Bounds.{Fine, nothing_shallow, fine_close, fine_closes}
use Rattle.sink.proofs.Begins.{begin_ok, begin_fine, base_opens, base_no_closes}
use Rattle.sink.proofs.Passing.{open_tells, mark_tells}
use Rattle.sink.proofs.Equals.{equal_zeroed}

-- ---- what stays

abbrev Same : Meaning → Meaning → Type 0
Same m n = (n.limit ≡ m.limit) × (n.base ≡ m.base) × (n.rewriting ≡ m.rewriting)

settled_same : (m kept : Meaning) (t : Bool) (to : Tried) → Same m kept → Same m (settle kept m t to).next
settled_same m kept t (Ok s) same = (refl, refl, refl)
settled_same m kept t (Err f) same = same

pub calls_keep : CallsKeepLimitBaseAndRewriting
calls_keep clearing m = (refl, refl, refl)
calls_keep beginning m = settled_same m (cleared m) _ _ (refl, refl, refl)
calls_keep (opening g) m = settled_same m m _ _ (refl, refl, refl)
calls_keep (marking k) m = settled_same m m _ _ (refl, refl, refl)
calls_keep closing m = settled_same m m _ _ (refl, refl, refl)
calls_keep ending m = settled_same m m _ _ (refl, refl, refl)

settled_refused : (kept m : Meaning) (t : Bool) (to : Tried) (f : SinkFault) → (settle kept m t to).result ≡ Err f → (settle kept m t to).next ≡ kept
settled_refused kept m t (Ok s) f e = ok_not_err tt f e
settled_refused kept m t (Err g) f e = refl

pub refused_changes_nothing : RefusedCallsChangeNothing
refused_changes_nothing clearing m f e = ok_not_err tt f e
refused_changes_nothing beginning m f e = settled_refused (cleared m) m _ _ f e
refused_changes_nothing (opening g) m f e = settled_refused m m _ _ f e
refused_changes_nothing (marking k) m f e = settled_refused m m _ _ f e
refused_changes_nothing closing m f e = settled_refused m m _ _ f e
refused_changes_nothing ending m f e = settled_refused m m _ _ f e

-- ---- equal groups and marks

matrix_equal : (m n : Matrix) → equal_matrix m n ≡ true → zeroed_matrix m ≡ zeroed_matrix n
unfolding zeroed_matrix
matrix_equal m n e =
    let f = and_parts _ (equal m.f n.f) e in
    let e = and_parts _ (equal m.e n.e) f.0 in
    let d = and_parts _ (equal m.d n.d) e.0 in
    let c = and_parts _ (equal m.c n.c) d.0 in
    let b = and_parts (equal m.a n.a) (equal m.b n.b) c.0 in
    rw
    (equal_zeroed m.a n.a b.0, equal_zeroed m.b n.b b.1, equal_zeroed m.c n.c c.1, equal_zeroed m.d n.d d.1, equal_zeroed m.e n.e e.1, equal_zeroed m.f n.f f.1)
    refl

clip_equal : (c d : Option Rect) → equal_clip c d ≡ true → zeroed_clip c ≡ zeroed_clip d
unfolding zeroed_clip zeroed_rect
clip_equal None None e = refl
clip_equal None (Some s) e = let z : ◌≡◌ {A = ℕ} 0 1 = cc in absurd (omega arith)
clip_equal (Some r) None e = let z : ◌≡◌ {A = ℕ} 0 1 = cc in absurd (omega arith)
clip_equal (Some r) (Some s) e =
    let h = and_parts _ (equal r.h s.h) e in
    let w = and_parts _ (equal r.w s.w) h.0 in
    let y = and_parts (equal r.x s.x) (equal r.y s.y) w.0 in
    rw (equal_zeroed r.x s.x y.0, equal_zeroed r.y s.y y.1, equal_zeroed r.w s.w w.1, equal_zeroed r.h s.h h.1) refl

group_equal : (g h : Group) → equal_group g h ≡ true → zeroed_group g ≡ zeroed_group h
unfolding zeroed_group
group_equal g h e =
    let o = and_parts _ (equal g.opacity h.opacity) e in
    let c = and_parts _ (equal_clip g.clip h.clip) o.0 in
    let m = and_parts (eqb g.id h.id) (equal_matrix g.matrix h.matrix) c.0 in
    rw (eqb-true g.id h.id m.0, matrix_equal g.matrix h.matrix m.1, clip_equal g.clip h.clip c.1, equal_zeroed g.opacity h.opacity o.1) refl

mark_equal : (j k : Mark) → equal_mark j k ≡ true → zeroed_mark j ≡ zeroed_mark k
unfolding zeroed_mark zeroed_ruler
mark_equal j k e =
    let r = j.ruler in
    let s = k.ruler in
    let l = and_parts (eqb j.leaf k.leaf) (equal_ruler r s) e in
    let f = and_parts _ (equal r.f s.f) l.1 in
    let h = and_parts (equal r.w s.w) (equal r.h s.h) f.0 in
    rw (eqb-true j.leaf k.leaf l.0, equal_zeroed r.w s.w h.0, equal_zeroed r.h s.h h.1, equal_zeroed r.f s.f f.1) refl

pub equal_groups : EqualGroupsDoTheSame
equal_groups m g h e =
    let same = group_equal g h e in
    let good : good_group g ≡ good_group h = sym (group_good g) ∙ ap good_group same ∙ group_good h in
    rw (good, same) refl

pub equal_marks : EqualMarksDoTheSame
equal_marks m j k e =
    let same = mark_equal j k e in
    let good : good_mark j ≡ good_mark k = sym (mark_good j) ∙ ap good_mark same ∙ mark_good k in
    rw (good, same) refl

-- ---- runs

-- in a turn all is well, and the base is open
abbrev InTurn : Meaning → Type 0
InTurn m = Fine m.limit m.script × (closes m.script + length m.base.groups ≤ opens m.script)

abbrev Held : Meaning → Type 0
Held m = (m.turn ≡ true → InTurn m) × ((m.script ≡ []) ⊎ Fine m.limit m.script)

held_clear : (m : Meaning) → Held (cleared m)
held_clear m = (λ e. let z : ◌≡◌ {A = ℕ} 0 1 = cc in absurd (omega arith), inl refl)

held_in_turn : (m n : Meaning) → n ≡ m → InTurn m → Held n
held_in_turn m n same is = rw same (λ e. is, inr is.0)

-- a call that is refused leaves what was; of an accepted one the rest of a law is shown
held_after : (kept m : Meaning) (t : Bool) (to : Tried) → Held kept → ((settle kept m t to).result ≡ Ok tt → Held (settle kept m t to).next) → Held (settle kept m t to).next
held_after kept m t (Ok s) held accepted = accepted refl
held_after kept m t (Err f) held accepted = held

held_begin : (m : Meaning) → (begin_step m).result ≡ Ok tt → Held (begin_step m).next
held_begin m e =
    let o = base_opens m.base.groups in
    let c = base_no_closes m.base.groups in
    held_in_turn (with_script m _ true) _ (begin_ok m tt e) (begin_fine m tt e, omega (arith, o, c))

held_open : (m : Meaning) (g : Group) → Held m → (open_step m g).result ≡ Ok tt → Held (open_step m g).next
held_open m g held e =
    let on = check_passed m m true _ _ _ _ tt e in
    let is = held.0 (not-false m.turn on.0) in
    let r = variants.Open (rewritten m.rewriting g) in
    let o = opens_append m.script (r ∷ []) in
    let c = closes_append m.script (r ∷ []) in
    held_in_turn (with_script m (m.script ++ r ∷ []) true) _ (ap (λ x. x.next) (checked_ok m m true _ _ tt e)) ((open_tells m g tt e is.0).1, omega (arith, o, c, is.1))

held_mark : (m : Meaning) (k : Mark) → Held m → (mark_step m k).result ≡ Ok tt → Held (mark_step m k).next
held_mark m k held e =
    let on = check_passed m m true _ _ _ _ tt e in
    let is = held.0 (not-false m.turn on.0) in
    let r = variants.Mark (zeroed_mark k) in
    let o = opens_append m.script (r ∷ []) in
    let c = closes_append m.script (r ∷ []) in
    held_in_turn (with_script m (m.script ++ r ∷ []) true) _ (ap (λ x. x.next) (checked_ok m m true _ _ tt e)) ((mark_tells m k tt e is.0).1, omega (arith, o, c, is.1))

held_close : (m : Meaning) → Held m → (close_step m).result ≡ Ok tt → Held (close_step m).next
held_close m held e =
    let on = check_passed m m true _ _ _ _ tt e in
    let is = held.0 (not-false m.turn on.0) in
    let beyond : leb (level m.script) (length m.base.groups) ≡ false = (check_passed m m true _ _ _ _ tt on.1).0 in
    let o = opens_append m.script (variants.Close ∷ []) in
    let c = closes_append m.script (variants.Close ∷ []) in
    let open_still : closes m.script + 1 + length m.base.groups ≤ opens m.script = grind (arith, nat_tests, beyond, is.1) in
    held_in_turn (with_script m (m.script ++ variants.Close ∷ []) true) _ (ap (λ x. x.next) (checked_ok m m true _ _ tt e)) (fine_close m.limit m.script is.0, omega (arith, o, c, open_still))

held_end : (m : Meaning) → Held m → (end_step m).result ≡ Ok tt → Held (end_step m).next
held_end m held e =
    let on = check_passed m m false _ _ _ _ tt e in
    let is = held.0 (not-false m.turn on.0) in
    rw (ap (λ x. x.next) (checked_ok m m false _ _ tt e)) (λ x. let z : ◌≡◌ {A = ℕ} 0 1 = cc in absurd (omega arith), inr (fine_closes m.limit (length m.base.groups) m.script is.0))

held_step : (call : Call) (m : Meaning) → Held m → Held (step call m).next
held_step clearing m held = held_clear m
held_step beginning m held = held_after (cleared m) m true _ (held_clear m) (held_begin m)
held_step (opening g) m held = held_after m m true _ held (held_open m g held)
held_step (marking k) m held = held_after m m true _ held (held_mark m k held)
held_step closing m held = held_after m m true _ held (held_close m held)
held_step ending m held = held_after m m false _ held (held_end m held)

held_run : (calls : List Call) (m : Meaning) → Held m → Held (run calls m)
held_run [] m held = held
held_run (call ∷ calls) m held = held_run calls (step call m).next (held_step call m held)

bounded : (m : Meaning) → Held m → Bounded m
bounded m held =
    record {
      shallow = ⊎_elim (λ none. rw none nothing_shallow) (λ fine. fine.0) held.1;
      within = ⊎_elim inl (λ fine. inr fine.1) held.1;
      base_open = λ on. let is = (held.0 on).1 in omega (arith, is);
    }

pub runs_bounded : RunsStayBounded
runs_bounded calls m = bounded (run calls (cleared m)) (held_run calls (cleared m) (held_clear m))
