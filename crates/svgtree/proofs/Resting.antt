-- What a call lets be: the nodes past those in use.
use Rattle.std.proofs.Common.{◌≡◌, ℕ, ◌+◌, ◌<◌, ◌≤◌, min, Bool, ◌≢◌, List, length, set, Some, None, Ok, Err, Option, Result, sym, refl, ap, ◌∙◌, arith}
use Rattle.std.proofs.lemmas.List.{length-set, get_or-set_other}
use Rattle.refusal.specs.declared.Refusal.{Refusal}
use Rattle.element.specs.declared.value.Attribute.{Attribute}
use Rattle.element.specs.declared.value.Kind.{Kind}
use Rattle.element.specs.declared.value.Value.{Value}
use Rattle.svgtree.specs.declared.calls.Call.{Call}
use Rattle.svgtree.specs.declared.calls.Call.TheVariants as call
use Rattle.svgtree.specs.declared.node.Node.{Node}
use Rattle.svgtree.specs.declared.document.Document.{Document}
use Rattle.svgtree.specs.Steps.{Outcome}
use Rattle.svgtree.specs.Memory.{nodes_of, no_node, node_at, fresh, behind_last, tied, value_changed, last_link, place_refusal}
use Rattle.svgtree.specs.Edits.{Added}
use Rattle.svgtree.specs.Calls.{Answer}
use Rattle.svgtree.specs.Runs.{DoneBy, RestKept}
use Rattle.svgtree.proofs.Reading.{nodes_count, not_refused}
use Rattle.svgtree.proofs.Editing.{edit_inside, EditedBy, set_later, unset_later}
use Rattle.svgtree.proofs.Placing.{read_inside, tied_long, place_there}

-- The nodes past those in use are as they were, none in use is taken out of use, and a count within the memory stays within it.
pub record Rests (d : Document) (ns : List Node) (d' : Document) (ns' : List Node) : Type 0 where
  pub rest : RestKept ns d' ns'
  pub grown : length (nodes_of d ns) ≤ length (nodes_of d' ns')
  pub counted : d.count ≤ length ns → d'.count ≤ length ns'

edit_rests : (d : Document) (ns : List Node) (n : ℕ) (later : List (Bool × Refusal)) (a : Attribute) (value : Option Value) (r : Result (Unit {0}) Refusal) (ns' : List Node) →
    EditedBy d ns n later a value r ns' → Rests d ns d ns'
edit_rests d ns n later a value (Err e) ns' edited =
    let same : ns' ≡ ns = edited.memory in
    rw same (record { rest = λ k past. refl; grown = omega arith; counted = λ h. h })
edit_rests d ns n later a value (Ok done) ns' edited =
    let inside : n < length (nodes_of d ns) = edit_inside d ns n later (not_refused _ tt done (sym (ap (λ (o : Outcome (Unit {0})). o.answer) edited.step))) in
    let long : length ns' ≡ length ns = ap length edited.memory ∙ length-set ns n (value_changed (node_at ns n) a value) in
    let many : length (nodes_of d ns') ≡ length (nodes_of d ns) = nodes_count d ns' ∙ ap (λ (l : ℕ). min d.count l) long ∙ sym (nodes_count d ns) in
    record {
      rest = λ k past. ap (λ (xs : List Node). node_at xs k) edited.memory ∙ get_or-set_other ns n k (value_changed (node_at ns n) a value) no_node (omega arith);
      grown = omega arith;
      counted = λ h. omega arith;
    }

-- tying touches the parent and its last child alone
tied_other : (xs : List Node) (p : ℕ) (o : Option ℕ) (m k : ℕ) → k ≢ p → o ≢ Some k → node_at (tied xs p o m) k ≡ node_at xs k
tied_other xs p o m k other apart = get_or-set_other (behind_last xs p o m) p k _ no_node other ∙ behind o apart
  where
    behind : (o : Option ℕ) → o ≢ Some k → node_at (behind_last xs p o m) k ≡ node_at xs k
    behind None clear = get_or-set_other xs p k _ no_node other
    behind (Some l) clear = get_or-set_other xs l k _ no_node (λ e. clear (ap Some (sym e)))

add_rests : (d : Document) (ns : List Node) (p : ℕ) (kind : Kind) (r : Result ℕ Refusal) (d' : Document) (ns' : List Node) → Added d ns p kind r d' ns' →
    Rests d ns d' ns'
add_rests d ns p kind (Err e) d' ns' added =
    let same : ns' ≡ ns = added.memory in
    let again : d' ≡ d = added.counted in
    rw (same, again) (record { rest = λ k past. refl; grown = omega arith; counted = λ h. h })
add_rests d ns p kind (Ok new) d' ns' added =
    let n : ℕ = length (nodes_of d ns) in
    let f : Node = fresh kind p ((node_at ns p).level + 1) in
    let o : Option ℕ = last_link d ns p in
    let there = place_there d ns p (not_refused (place_refusal d ns p) n new (sym added.answer)) in
    let inside : p < n = there.0 in
    let free : n < length ns = there.1 in
    let long : length ns' ≡ length ns = ap length added.memory ∙ tied_long (set ns n f) p o n ∙ length-set ns n f in
    let more : d'.count ≡ n + 1 = ap (λ (x : Document). x.count) added.counted in
    let many : length (nodes_of d' ns') ≡ n + 1 = omega (arith, nodes_count d' ns') in
    record {
      rest = λ k past.
          ap (λ (xs : List Node). node_at xs k) added.memory
          ∙ tied_other (set ns n f) p o n k (omega arith) (λ e. omega (arith, read_inside n (node_at ns p).last_child k e))
          ∙ get_or-set_other ns n k f no_node (omega arith);
      grown = omega arith;
      counted = λ h. omega arith;
    }

pub rest_one : (d : Document) (ns : List Node) (c : Call) (t : Answer) (d' : Document) (ns' : List Node) → DoneBy d ns c t d' ns' → Rests d ns d' ns'
rest_one d ns (call.Add p kind) t d' ns' done = add_rests d ns p kind done.0 d' ns' done.2
rest_one d ns (call.Set n a value) t d' ns' done =
    let same : d' ≡ d = done.2 in
    rw same (edit_rests d ns n (set_later d ns n a value) a (Some value) done.0 ns' done.3)
rest_one d ns (call.Unset n a) t d' ns' done =
    let same : d' ≡ d = done.2 in
    rw same (edit_rests d ns n (unset_later d ns n a) a None done.0 ns' done.3)
