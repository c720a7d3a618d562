-- Runs of calls.
use Rattle.std.proofs.Common.{◌≡◌, ℕ, ◌+◌, ◌<◌, ◌≤◌, List, [], ◌∷◌, ◌++◌, length, take, drop, set, None, Ok, Err, Option, Result, sym, refl, ap, ◌∙◌, arith}
use Rattle.std.proofs.lemmas.List.{append_assoc, drop_all, take_more_set, drop_more, drop-set-lt, take-append-drop, length-set, get_or-set_other}
use Rattle.std.proofs.lemmas.Bool.{eqb-false}
use Rattle.refusal.specs.Order.{first_of, unless}
use Rattle.refusal.specs.declared.Refusal.{Refusal}
use Rattle.element.specs.declared.value.Kind.TheVariants.{Svg}
use Rattle.svgtree.specs.declared.calls.Call.{Call}
use Rattle.svgtree.specs.declared.node.Node.{Node}
use Rattle.svgtree.specs.declared.document.Document.{Document}
use Rattle.geom.specs.declared.options.Options.{Options}
use Rattle.svgtree.specs.Model.{Model}
use Rattle.svgtree.specs.Steps.{new_checks}
use Rattle.svgtree.specs.Memory.{nodes_of, model_of, no_node, node_at, fresh}
use Rattle.svgtree.specs.Links.{Linked}
use Rattle.svgtree.specs.Edits.{Begun}
use Rattle.svgtree.proofs.Reading.{passes, not_refused, nodes_count}
use Rattle.svgtree.proofs.Resting.{Rests, rest_one}
use Rattle.svgtree.proofs.Sounding.{sound_after}
use Rattle.svgtree.specs.Calls.{Answer, Turn, turn, edited, told, after, after_new, told_after_new}
use Rattle.svgtree.specs.Runs.{written, RestKept, Called, AllCalled, Ran}

-- where a run stands once i places are filled and these calls are left: what is still to come gives what the whole gives
pub record Standing (d₀ : Document) (ns₀ : List Node) (calls : List Call) (places₀ : List Answer) (i : ℕ) (left : List Call) (d : Document) (ns : List Node) (places : List Answer) : Type 0 where
  pub linked : Linked (nodes_of d ns)
  pub lent : length ns ≡ length ns₀
  pub ahead : edited (length ns₀) (model_of d ns) left ≡ edited (length ns₀) (model_of d₀ ns₀) calls
  pub answers : take i places ++ written (drop i places) (told (length ns₀) (model_of d ns) left) ≡ written places₀ (told (length ns₀) (model_of d₀ ns₀) calls)
  pub rest : RestKept ns₀ d ns
  pub grown : length (nodes_of d₀ ns₀) ≤ length (nodes_of d ns)
  pub counted : d₀.count ≤ length ns₀ → d.count ≤ length ns

pub stands_first : (d : Document) (ns : List Node) (calls left : List Call) (places : List Answer) → Linked (nodes_of d ns) → left ≡ calls → Standing d ns calls places 0 left d ns places
stands_first d ns calls left places linked all = rw all (record { linked = linked; lent = refl; ahead = refl; answers = refl; rest = λ k h. refl; grown = omega arith; counted = λ h. h })

written_none : (places : List Answer) → written places [] ≡ places
written_none [] = refl
written_none (p ∷ places) = refl

-- one answer more: written where there is a place, else let go
written_more : (i : ℕ) (places : List Answer) (a : Answer) (told : List Answer) → i < length places →
    take (i + 1) (set places i a) ++ written (drop (i + 1) (set places i a)) told ≡ take i places ++ written (drop i places) (a ∷ told)
written_more i places a told free =
    ap (λ (xs : List Answer). xs ++ written (drop (i + 1) (set places i a)) told) (take_more_set places i a free)
    ∙ append_assoc (take i places) (a ∷ []) (written (drop (i + 1) (set places i a)) told)
    ∙ ap (λ (xs : List Answer). take i places ++ a ∷ written xs told) (drop-set-lt (i + 1) places i a (omega arith))
    ∙ sym (ap (λ (xs : List Answer). take i places ++ written xs (a ∷ told)) (drop_more places i a free))

written_past : (i : ℕ) (places : List Answer) (a : Answer) (told : List Answer) → length places ≤ i →
    take i places ++ written (drop i places) told ≡ take i places ++ written (drop i places) (a ∷ told)
written_past i places a told full = rw drop_all refl

-- one turn
module _ (d₀ : Document) (ns₀ : List Node) (calls : List Call) (places₀ : List Answer) (i : ℕ) (c : Call) (left left' : List Call) (d : Document) (ns : List Node) (places : List Answer)
    (stands : Standing d₀ ns₀ calls places₀ i left d ns places) (next : left ≡ c ∷ left') (t : Answer) (d' : Document) (ns' : List Node) (called : Called d ns c t d' ns') (long : length ns' ≡ length ns) where
  stepped : record { told = t; document = model_of d' ns' } ≡ turn (length ns₀) (model_of d ns) c
  stepped = called.step stands.linked ∙ ap (λ (n : ℕ). turn n (model_of d ns) c) stands.lent

  edited_on : edited (length ns₀) (model_of d ns) left ≡ edited (length ns₀) (model_of d' ns') left'
  unfolding edited
  edited_on =
      ap (λ (xs : List Call). edited (length ns₀) (model_of d ns) xs) next
      ∙ sym (ap (λ (o : Turn). edited (length ns₀) o.document left') stepped)

  told_on : told (length ns₀) (model_of d ns) left ≡ t ∷ told (length ns₀) (model_of d' ns') left'
  unfolding told
  told_on =
      ap (λ (xs : List Call). told (length ns₀) (model_of d ns) xs) next
      ∙ sym (ap (λ (o : Turn). o.told ∷ told (length ns₀) o.document left') stepped)

  -- with the answers that the turn leaves
  stands_on : (j : ℕ) (places' : List Answer) →
      ((told : List Answer) → take j places' ++ written (drop j places') told ≡ take i places ++ written (drop i places) (t ∷ told)) →
      Standing d₀ ns₀ calls places₀ j left' d' ns' places'
  stands_on j places' wrote =
      let one : Rests d ns d' ns' = rest_one d ns c t d' ns' called.done in
      let more : length (nodes_of d ns) ≤ length (nodes_of d' ns') = one.grown in
      record {
        linked = called.links stands.linked;
        lent = long ∙ stands.lent;
        ahead = sym edited_on ∙ stands.ahead;
        answers =
            wrote (told (length ns₀) (model_of d' ns') left')
            ∙ ap (λ (ts : List Answer). take i places ++ written (drop i places) ts) (sym told_on)
            ∙ stands.answers;
        rest = λ k past. one.rest k past ∙ stands.rest k (omega arith);
        grown = omega (arith, stands.grown);
        counted = λ h. one.counted (stands.counted h);
      }

  pub stands_written : i < length places → Standing d₀ ns₀ calls places₀ (i + 1) left' d' ns' (set places i t)
  stands_written free = stands_on (i + 1) (set places i t) (λ ts. written_more i places t ts free)

  pub stands_past : length places ≤ i → Standing d₀ ns₀ calls places₀ i left' d' ns' places
  stands_past full = stands_on i places (λ ts. written_past i places t ts full)

-- the end
pub stands_last : (d₀ : Document) (ns₀ : List Node) (calls : List Call) (places₀ : List Answer) (i : ℕ) (left : List Call) (d : Document) (ns : List Node) (places : List Answer) →
    Standing d₀ ns₀ calls places₀ i left d ns places → length left ≡ 0 → AllCalled d₀ ns₀ calls places₀ d ns places
unfolding edited told
stands_last d₀ ns₀ calls places₀ i (c ∷ left) d ns places stands over = absurd (omega arith)
stands_last d₀ ns₀ calls places₀ i [] d ns places stands over =
    record {
      document = stands.ahead;
      answers =
          sym (take-append-drop i places)
          ∙ ap (λ (xs : List Answer). take i places ++ xs) (sym (written_none (drop i places)))
          ∙ stands.answers;
      links = stands.linked;
      rest = stands.rest;
      grown = stands.grown;
      counted = stands.counted;
    }

-- WITH `new`

pub ran_refused : (options : Options) (ns : List Node) (calls : List Call) (places : List Answer) (e : Refusal) (ns' : List Node) → Begun options ns (Err e) ns' → Ran options ns calls places (Err e) ns' places
ran_refused options ns calls places e ns' begun =
    record {
      document = ap (λ (r : Result Model Refusal). after_new (length ns) r calls) begun.step;
      answers = sym (written_none places) ∙ ap (λ (r : Result Model Refusal). written places (told_after_new (length ns) r calls)) begun.step;
      counted = tt;
      links = tt;
      sound = tt;
      rest = tt;
      refused = λ refusal is. begun.memory;
    }

-- a document that was made has a node, and room for it
made_one : (options : Options) (ns : List Node) (d : Document) (ns' : List Node) → Begun options ns (Ok d) ns' → (0 < length (nodes_of d ns')) × (d.count ≤ length ns')
made_one options ns d ns' begun =
    let accepted : first_of (new_checks (length ns) options) ≡ None = not_refused (first_of (new_checks (length ns) options)) (record { count = 1; options = options }) d (sym begun.answer) in
    let some : length ns ≡ 0 → ⊥ = eqb-false (length ns) 0 (passes (new_checks (length ns) options) accepted).0 in
    let same : Ok d ≡ Ok (record { count = 1; options = options }) = begun.answer ∙ ap (λ (r : Option Refusal). unless r (record { count = 1; options = options })) accepted in
    let one : d ≡ record { count = 1; options = options } = cc in
    let long : length ns' ≡ length ns = ap length begun.memory ∙ length-set ns 0 (fresh Svg 0 1) in
    (omega (arith, nodes_count d ns', ap (λ (x : Document). x.count) one), omega (arith, ap (λ (x : Document). x.count) one))

pub ran_done : (options : Options) (ns : List Node) (calls : List Call) (places : List Answer) (d : Document) (ns₁ : List Node) (d' : Document) (ns' : List Node) (places' : List Answer) →
    Begun options ns (Ok d) ns₁ → AllCalled d ns₁ calls places d' ns' places' → Ran options ns calls places (Ok d') ns' places'
ran_done options ns calls places d ns₁ d' ns' places' begun called =
    let long : length ns₁ ≡ length ns = ap length begun.memory ∙ length-set ns 0 (fresh Svg 0 1) in
    let made = made_one options ns d ns₁ begun in
    let one : 0 < length (nodes_of d ns₁) = made.0 in
    let within : d'.count ≤ length ns' = called.counted made.1 in
    let more : length (nodes_of d ns₁) ≤ length (nodes_of d' ns') = called.grown in
    let document : Ok (model_of d' ns') ≡ after options (length ns) calls =
    ap Ok (called.document ∙ ap (λ (n : ℕ). edited n (model_of d ns₁) calls) long)
    ∙ ap (λ (r : Result Model Refusal). after_new (length ns) r calls) begun.step in
    record {
      document = document;
      sound = sound_after options (length ns) calls (model_of d' ns') (sym document);
      answers =
          called.answers
          ∙ ap (λ (n : ℕ). written places (told n (model_of d ns₁) calls)) long
          ∙ ap (λ (r : Result Model Refusal). written places (told_after_new (length ns) r calls)) begun.step;
      counted = omega (arith, nodes_count d' ns');
      links = called.links;
      rest = λ k past.
          called.rest k past
          ∙ ap (λ (xs : List Node). node_at xs k) begun.memory
          ∙ get_or-set_other ns 0 k (fresh Svg 0 1) no_node (omega arith);
      refused = λ refusal is. cc;
    }
