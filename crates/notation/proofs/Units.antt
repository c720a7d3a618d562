-- The unit at the end of a length's text.
use Rattle.std.proofs.Common.{◌≡◌, ℕ, ◌-◌, ◌<◌, ◌≤◌, Bool, true, false, cond, ◌||◌, eqb, List, [], ◌∷◌, ◌++◌, length, get_or, take, drop, Some, None, codes, Option, sym, refl, ap, ◌∙◌, subst, rules, append_assoc, append-nil, add-zero, arith, length-append, take-append-drop, take_at, drop_at}
use Rattle.std.specs.Float.Parse.{float_scan_step, completes_number, lowercases_to, without_sign, is_infinity_text, is_nan_text}
use Rattle.std.specs.Char.{to_ascii_lowercase}
use Rattle.std.specs.Str.{IsCharBoundary, bytes_eq}
use Rattle.std.proofs.lemmas.Slice.Eq.{bytes_eq-Decides}
use Rattle.std.proofs.lemmas.List.{get_or-drop, get_or_default}
use Rattle.std.proofs.lemmas.Bool.{cond-true, cond-false, both_ways, and_left, and_right, or_from}
use Rattle.geom.specs.declared.length.Unit.{Unit as LengthUnit}
use Rattle.geom.specs.declared.length.Unit.TheVariants as unit
use Rattle.notation.specs.Names.{named, letter_units, units}
use Rattle.notation.specs.Numbers.{a_number}
use Rattle.notation.specs.Lengths.{parted, parts, PartsFound}
use Rattle.notation.proofs.Naming.{other_text, not_named}

-- THE END OF A TEXT

short : (front end : List ℕ) → length front ≡ length (front ++ end) - length end
short front end = omega (arith, length-append front end)

before_end : (front end : List ℕ) → take (length (front ++ end) - length end) (front ++ end) ≡ front
before_end front end = take_at front end _ (short front end)

at_end : (front end : List ℕ) → drop (length (front ++ end) - length end) (front ++ end) ≡ end
at_end front end = drop_at front end _ (short front end)

same : (name : List ℕ) → bytes_eq name name ≡ true
same name = (bytes_eq-Decides name name).1 refl

-- THE TWO LETTERS OF A NAME

abbrev Two : List (List ℕ × LengthUnit) → Type 0
Two [] = Unit {0}
Two (row ∷ rows) = (length row.0 ≡ 2) × Two rows

-- the text without its last two bytes and the unit that they name, or all of it and no unit
abbrev pub found : Option LengthUnit → List ℕ → List ℕ × LengthUnit
found None text = (text, unit.None)
found (Some u) text = (take (length text - 2) text, u)

two_parts : (rows : List (List ℕ × LengthUnit)) (text : List ℕ) → Two rows → parted rows text ≡ found (named rows (drop (length text - 2) text)) text
two_parts [] text t = refl
two_parts (row ∷ rows) text t =
    subst (λ (k : ℕ). cond (bytes_eq (drop (length text - k) text) row.0) (take (length text - k) text, row.1) (parted rows text) ≡ found (named (row ∷ rows) (drop (length text - 2) text)) text)
    (sym t.0)
    (go (bytes_eq (drop (length text - 2) text) row.0) _ _ (two_parts rows text t.1))
  where
    go : (b : Bool) (p : List ℕ × LengthUnit) (o : Option LengthUnit) → p ≡ found o text → cond b (take (length text - 2) text, row.1) p ≡ found (cond b (Some row.1) o) text
    go true p o e = refl
    go false p o e = e

letters_are_two : Two letter_units
letters_are_two = search rules

-- a text that does not end with a % ends with no single byte of it
no_percent : (text : List ℕ) (k : ℕ) → ((front : List ℕ) → text ≡ front ++ codes "%" → ⊥) → bytes_eq (drop k text) (codes "%") ≡ false
no_percent text k lacks =
    other_text (drop k text) (codes "%") (λ e. lacks (take k text) (sym (take-append-drop k text) ∙ ap (λ (l : List ℕ). take k text ++ l) e))

pub percent_parts : (front : List ℕ) → parts (front ++ codes "%") ≡ (front, unit.Percent)
unfolding parts
percent_parts front =
    cond-true _ _ _ (ap (λ (l : List ℕ). bytes_eq l (codes "%")) (at_end front (codes "%")))
    ∙ ap (λ (l : List ℕ). (l, unit.Percent)) (before_end front (codes "%"))

pub other_parts : (text : List ℕ) → ((front : List ℕ) → text ≡ front ++ codes "%" → ⊥) → parts text ≡ found (named units (drop (length text - 2) text)) text
unfolding parts
other_parts text lacks =
    cond-false _ _ _ (no_percent text (length text - 1) lacks)
    ∙ two_parts letter_units text letters_are_two
    ∙ ap (λ (o : Option LengthUnit). found o text) (sym (cond-false _ _ _ (no_percent text (length text - 2) lacks)))

-- A NAME BEGINS A CHARACTER

abbrev Letters : List (List ℕ × LengthUnit) → Type 0
Letters [] = Unit {0}
Letters (row ∷ rows) = (get_or row.0 0 128 < 128) × Letters rows

named_letters : (rows : List (List ℕ × LengthUnit)) (text : List ℕ) → Letters rows → (get_or text 0 128 < 128 → ⊥) → named rows text ≡ None
named_letters [] text l wide = refl
named_letters (row ∷ rows) text l wide =
    cond-false _ _ _ (other_text text row.0 (λ e. wide (subst (λ (t : List ℕ). get_or t 0 128 < 128) (sym e) l.0)))
    ∙ named_letters rows text l.1 wide

units_are_letters : Letters units
units_are_letters = search rules

-- a text that can't be cut there has no name there
pub no_name : (text : List ℕ) (at : ℕ) → at ≤ length text → (IsCharBoundary text at → ⊥) → named units (drop at text) ≡ None
no_name text at within apart =
    named_letters units (drop at text) units_are_letters (λ low. apart (within, λ inside wide. absurd (omega (arith, low_byte low inside))))
  where
    low_byte : get_or (drop at text) 0 128 < 128 → at < length text → get_or text at 0 < 128
    low_byte low inside = subst (λ (b : ℕ). b < 128) (get_or-drop at text 0 128 ∙ ap (λ (i : ℕ). get_or text i 128) (add-zero at) ∙ get_or_default text at 128 0 inside) low

-- NO NUMBER ENDS WITH A NAME

snoc : (xs : List ℕ) (a b : ℕ) → xs ++ (a ∷ b ∷ []) ≡ (xs ++ (a ∷ [])) ++ (b ∷ [])
snoc xs a b = sym (append_assoc xs (a ∷ []) (b ∷ []))

-- a byte that no number goes on with
abbrev Stop : ℕ → Type 0
Stop b = (s : ℕ) → float_scan_step s b ≡ 7

no_digits : (s : ℕ) (xs : List ℕ) (b : ℕ) → Stop b → completes_number s (xs ++ (b ∷ [])) ≡ false
no_digits s [] b h = ap (λ (t : ℕ). completes_number t []) (h s)
no_digits s (x ∷ xs) b h = no_digits (float_scan_step s x) xs b h

spells_last : (xs ws : List ℕ) (b w : ℕ) → eqb (to_ascii_lowercase b) w ≡ false → lowercases_to (xs ++ (b ∷ [])) (ws ++ (w ∷ [])) ≡ false
spells_last [] [] b w h = and_left _ _ h
spells_last [] (v ∷ []) b w h = and_right _ _ refl
spells_last [] (v ∷ u ∷ ws) b w h = and_right _ _ refl
spells_last (x ∷ []) [] b w h = and_right _ _ refl
spells_last (x ∷ y ∷ xs) [] b w h = and_right _ _ refl
spells_last (x ∷ xs) (v ∷ ws) b w h = and_right _ _ (spells_last xs ws b w h)

no_nan : (xs : List ℕ) (a b : ℕ) → eqb (to_ascii_lowercase a) 97 ≡ false → lowercases_to (xs ++ (a ∷ b ∷ [])) (110 ∷ 97 ∷ 110 ∷ []) ≡ false
no_nan [] a b h = search (and_right, and_left)
no_nan (x ∷ []) a b h = search (and_right, and_left)
no_nan (x ∷ y ∷ []) a b h = search (and_right, and_left)
no_nan (x ∷ y ∷ z ∷ []) a b h = search (and_right, and_left)
no_nan (x ∷ y ∷ z ∷ t ∷ xs) a b h = search (and_right, and_left)

-- past a sign, what ends a text still ends it
signed_end : (xs end : List ℕ) → (eqb (get_or end 0 0) 43 || eqb (get_or end 0 0) 45) ≡ false → (ys : List ℕ) × (without_sign (xs ++ end) ≡ ys ++ end)
signed_end [] end h = ([], ap (λ (b : Bool). drop (cond b 1 0) end) h)
signed_end (x ∷ xs) end h = go (eqb x 43 || eqb x 45)
  where
    go : (b : Bool) → (ys : List ℕ) × (drop (cond b 1 0) ((x ∷ xs) ++ end) ≡ ys ++ end)
    go true = (xs, refl)
    go false = (x ∷ xs, refl)

-- the letters of a name
pub record LetterPair (a b : ℕ) : Type 0 where
  pub unsigned : (eqb a 43 || eqb a 45) ≡ false
  pub stop : Stop b
  pub no_f : eqb (to_ascii_lowercase b) 102 ≡ false
  pub no_y : eqb (to_ascii_lowercase b) 121 ≡ false
  pub no_a : eqb (to_ascii_lowercase a) 97 ≡ false

letters_end_none : (xs : List ℕ) (a b : ℕ) → LetterPair a b → a_number (xs ++ (a ∷ b ∷ [])) ≡ false
unfolding a_number
letters_end_none xs a b p =
    let e = signed_end xs (a ∷ b ∷ []) p.unsigned in
    let ys = e.0 in
    subst (λ (l : List ℕ). (completes_number 0 l || (is_infinity_text l || is_nan_text l)) ≡ false) (sym e.1)
    (or_from _ _ (ap (completes_number 0) (snoc ys a b) ∙ no_digits 0 (ys ++ (a ∷ [])) b p.stop)
    (or_from _ _
    (ap is_infinity_text (snoc ys a b) ∙ or_from _ _ (spells_last (ys ++ (a ∷ [])) (105 ∷ 110 ∷ []) b 102 p.no_f) (spells_last (ys ++ (a ∷ [])) (105 ∷ 110 ∷ 102 ∷ 105 ∷ 110 ∷ 105 ∷ 116 ∷ []) b 121 p.no_y))
    (no_nan ys a b p.no_a)))

percent_ends_none : (xs : List ℕ) → a_number (xs ++ codes "%") ≡ false
unfolding a_number
percent_ends_none xs =
    let e = signed_end xs (codes "%") refl in
    let ys = e.0 in
    subst (λ (l : List ℕ). (completes_number 0 l || (is_infinity_text l || is_nan_text l)) ≡ false) (sym e.1)
    (or_from _ _ (no_digits 0 ys 37 (λ s. refl))
    (or_from _ _
    (or_from _ _ (spells_last ys (105 ∷ 110 ∷ []) 37 102 refl) (spells_last ys (105 ∷ 110 ∷ 102 ∷ 105 ∷ 110 ∷ 105 ∷ 116 ∷ []) 37 121 refl))
    (spells_last ys (110 ∷ 97 ∷ []) 37 110 refl)))

-- A NUMBER WITH A NAME BEHIND IT

last_byte : (xs ys : List ℕ) (b d : ℕ) → xs ++ (b ∷ []) ≡ ys ++ (d ∷ []) → b ≡ d
last_byte xs ys b d e =
    let l = sym (at_end xs (b ∷ [])) ∙ ap (λ (l : List ℕ). drop (length l - 1) l) e ∙ at_end ys (d ∷ []) in
    ap (λ (l : List ℕ). get_or l 0 0) l

letters_parts : (front : List ℕ) (a b : ℕ) (u : LengthUnit) → (b ≡ 37 → ⊥) → named units (a ∷ b ∷ []) ≡ Some u → parts (front ++ (a ∷ b ∷ [])) ≡ (front, u)
letters_parts front a b u apart e =
    other_parts (front ++ (a ∷ b ∷ [])) (λ before same_text. apart (last_byte (front ++ (a ∷ [])) before b 37 (sym (snoc front a b) ∙ same_text)))
    ∙ ap (λ (o : Option LengthUnit). found o (front ++ (a ∷ b ∷ []))) (ap (named units) (at_end front (a ∷ b ∷ [])) ∙ e)
    ∙ ap (λ (l : List ℕ). (l, u)) (before_end front (a ∷ b ∷ []))

module _ (n : List ℕ) (number : a_number n ≡ true) where
  no_percent_end : (front : List ℕ) → n ≡ front ++ codes "%" → ⊥
  no_percent_end front e = both_ways _ (ap a_number e ∙ percent_ends_none front) number

  no_letters_end : (k a b : ℕ) → LetterPair a b → drop k n ≡ a ∷ b ∷ [] → ⊥
  no_letters_end k a b p e =
      both_ways _ (ap a_number (sym (take-append-drop k n) ∙ ap (λ (l : List ℕ). take k n ++ l) e) ∙ letters_end_none (take k n) a b p) number

  no_name_behind : parts n ≡ (n, unit.None)
  no_name_behind =
      let k = length n - 2 in
      other_parts n no_percent_end
      ∙ ap (λ (o : Option LengthUnit). found o n)
      (not_named units (drop k n) (
        λ e. no_percent_end (take k n) (sym (take-append-drop k n) ∙ ap (λ (l : List ℕ). take k n ++ l) e),
        (no_letters_end k 112 120 (search rules), (no_letters_end k 101 109 (search rules), (no_letters_end k 101 120 (search rules), (no_letters_end k 105 110 (search rules), (no_letters_end k 99 109 (search rules), (no_letters_end k 109 109 (search rules), (no_letters_end k 112 116 (search rules), (no_letters_end k 112 99 (search rules), tt)))))))),
      ))

pub parts_found : PartsFound
parts_found n unit.None number = ap parts (append-nil n) ∙ no_name_behind n number
parts_found n unit.Px number = letters_parts n 112 120 unit.Px (λ e. absurd (omega arith)) refl
parts_found n unit.Em number = letters_parts n 101 109 unit.Em (λ e. absurd (omega arith)) refl
parts_found n unit.Ex number = letters_parts n 101 120 unit.Ex (λ e. absurd (omega arith)) refl
parts_found n unit.In number = letters_parts n 105 110 unit.In (λ e. absurd (omega arith)) refl
parts_found n unit.Cm number = letters_parts n 99 109 unit.Cm (λ e. absurd (omega arith)) refl
parts_found n unit.Mm number = letters_parts n 109 109 unit.Mm (λ e. absurd (omega arith)) refl
parts_found n unit.Pt number = letters_parts n 112 116 unit.Pt (λ e. absurd (omega arith)) refl
parts_found n unit.Pc number = letters_parts n 112 99 unit.Pc (λ e. absurd (omega arith)) refl
parts_found n unit.Percent number = percent_parts n
