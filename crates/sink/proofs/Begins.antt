-- What an accepted begin leaves. Assumes nothing.
use Rattle.std.proofs.Common.{◌≡◌, ℕ, Bool, true, false, cond, List, [], ◌∷◌, ◌++◌, map, length, Some, None, Ok, Err, Option, sym, refl, ap, ◌∙◌, subst, append_assoc, arith}
use Rattle.std.proofs.lemmas.List.{append-nil}
use Rattle.refusal.specs.Order.{first_of, unless}
use Rattle.record.specs.declared.Group.{Group}
use Rattle.record.specs.Records.{Record}
use Rattle.record.specs.declared.Event.TheVariants as variants
use Rattle.record.specs.Zero.{zeroed_group}
use Rattle.sink.specs.declared.fault.SinkFault.{SinkFault}
use Rattle.sink.specs.declared.fault.SinkFault.TheVariants.{NoPlaces}
use Rattle.sink.specs.Script.{opens, closes}
use Rattle.sink.specs.Meaning.{Meaning, Limit, exceeds}
use Rattle.sink.specs.Base.{base_opened}
use Rattle.sink.specs.Calls.{Tried, then, room_checks, open_all, settle, cleared, with_script, begin_step}
use Rattle.sink.proofs.Outcomes.{ok_not_err}
use Rattle.sink.proofs.Bounds.{Fine, fine_nothing, fine_open}

tried_ok : (kept m : Meaning) (t : Bool) (to : Tried) (u : Unit {0}) → (settle kept m t to).result ≡ Ok u → (s : List Record) × (to ≡ Ok s)
tried_ok kept m t (Ok s) u e = (s, refl)
tried_ok kept m t (Err f) u e = ok_not_err u f (sym e)

then_passed : (b : Bool) (f : SinkFault) (later : Option SinkFault) (t : List Record) (next : List Record → Tried) (s : List Record)
    → then (unless (cond b (Some f) later) t) next ≡ Ok s → (b ≡ false) × (then (unless later t) next ≡ Ok s)
then_passed true f later t next s e = let z : ◌≡◌ {A = ℕ} 0 1 = cc in absurd (omega arith)
then_passed false f later t next s e = (refl, e)

then_checked : (o : Option SinkFault) (t : List Record) (next : List Record → Tried) (s : List Record) → then (unless o t) next ≡ Ok s → next t ≡ Ok s
then_checked None t next s e = e
then_checked (Some f) t next s e = let z : ◌≡◌ {A = ℕ} 0 1 = cc in absurd (omega arith)

open_all_ok : (limit : Limit) (gs : List Group) (t s : List Record) → open_all limit gs t ≡ Ok s → s ≡ t ++ map (λ h. variants.Open h) (map zeroed_group gs)
open_all_ok limit [] t s e = let same : s ≡ t = cc in same ∙ sym (append-nil t)
open_all_ok limit (g ∷ gs) t s e =
    let u = t ++ variants.Open (zeroed_group g) ∷ [] in
    open_all_ok limit gs u s (then_checked (first_of (room_checks limit t)) u (open_all limit gs) s e) ∙ append_assoc t (variants.Open (zeroed_group g) ∷ []) _

pub begin_ok : (m : Meaning) (u : Unit {0}) → (begin_step m).result ≡ Ok u → (begin_step m).next ≡ with_script m (base_opened m.base) true
begin_ok m u e =
    let checks = (exceeds 0 m.limit, NoPlaces) ∷ [] in
    let to = then (unless (first_of checks) []) (open_all m.limit m.base.groups) in
    let p = tried_ok (cleared m) m true to u e in
    let script = open_all_ok m.limit m.base.groups [] p.0 (then_checked (first_of checks) [] (open_all m.limit m.base.groups) p.0 p.1) in
    ap (λ t. (settle (cleared m) m true t).next) p.1 ∙ ap (λ s. with_script m s true) script

open_all_fine : (limit : Limit) (gs : List Group) (t s : List Record) → Fine limit t → open_all limit gs t ≡ Ok s → Fine limit s
open_all_fine limit [] t s fine e = let same : t ≡ s = cc in subst (Fine limit) same fine
open_all_fine limit (g ∷ gs) t s fine e =
    let u = t ++ variants.Open (zeroed_group g) ∷ [] in
    let deep = then_passed _ _ _ _ _ s e in
    let room = then_passed _ _ _ _ _ s deep.1 in
    open_all_fine limit gs u s (fine_open limit t (zeroed_group g) fine deep.0 room.0) room.1

pub base_opens : (gs : List Group) → opens (map (λ h. variants.Open h) (map zeroed_group gs)) ≡ length gs
base_opens [] = refl
base_opens (g ∷ gs) = rw (base_opens gs) (omega arith)

pub base_no_closes : (gs : List Group) → closes (map (λ h. variants.Open h) (map zeroed_group gs)) ≡ 0
base_no_closes [] = refl
base_no_closes (g ∷ gs) = base_no_closes gs

pub begin_fine : (m : Meaning) (u : Unit {0}) → (begin_step m).result ≡ Ok u → Fine m.limit (base_opened m.base)
begin_fine m u e =
    let to = then (unless (first_of ((exceeds 0 m.limit, NoPlaces) ∷ [])) []) (open_all m.limit m.base.groups) in
    let p = tried_ok (cleared m) m true to u e in
    let room = then_passed _ _ _ _ _ p.0 p.1 in
    let fine = open_all_fine m.limit m.base.groups [] p.0 (fine_nothing m.limit room.0) room.1 in
    let same : p.0 ≡ base_opened m.base = ap (λ n. n.script) (sym (ap (λ t. (settle (cleared m) m true t).next) p.1) ∙ begin_ok m u e) in
    subst (Fine m.limit) same fine
