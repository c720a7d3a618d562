-- What holds of the groups that the rules give, in the words of the subject.
use Rattle.std.specs.Prelude.{◌≡◌, true, false, ◌⊎◌, List, [], ◌∷◌, ◌++◌, is_some, Some, None, Ok, Err, Option, Result, ◌≢◌}
use Rattle.refusal.specs.declared.Refusal.{Refusal}
use Rattle.refusal.specs.declared.Refusal.TheVariants.{NotFinite}
use Rattle.geom.specs.Matrix.{identity, translation, product, finite_matrix, is_identity}
use Rattle.geom.specs.Size.{valid_rect}
use Rattle.geom.specs.declared.length.Direction.TheVariants.{Across, Down}
use Rattle.geom.specs.declared.matrix.Matrix.{Matrix}
use Rattle.geom.specs.declared.rect.Rect.{Rect}
use Rattle.record.specs.Good.{good_group, good_opacity}
use Rattle.record.specs.declared.Group.{Group}
use Rattle.element.specs.Attributes.{length_of, opacity_of, overflows}
use Rattle.element.specs.declared.element.Element.{Element}
use Rattle.element.specs.declared.value.Attribute.TheVariants.{X, Y, Width, Height}
use Rattle.converter.specs.Rectangle.{position, resolved_rect, fitted_view_box, placing}
use Rattle.converter.specs.declared.state.State.{State}
use Rattle.converter.specs.declared.rules.Converted.{Converted}

-- what holds of what a rule gives; it refuses nothing but what is not finite
abbrev pub Accepted : Result Converted Refusal → (Converted → Type 0) → Type 0
Accepted (Ok c) P = P c
Accepted (Err r) P = r ≡ NotFinite

abbrev pub listed : {A : Type 0} → Option A → List A
listed None = []
listed (Some x) = x ∷ []

-- ---- clips

abbrev pub clip_of : Option Group → List Rect
clip_of None = []
clip_of (Some g) = listed g.clip

-- the clips of the groups, from the outside in
abbrev pub clips : Converted → List Rect
clips c = clip_of c.outer ++ clip_of c.inner

-- there is a clip, and it is this rectangle, exactly when that holds; else none of the groups has one
abbrev pub ClipsTo : Converted → Rect → Type 0 → Type 0
ClipsTo c r When = (When → clips c ≡ r ∷ []) × ((When → ⊥) → clips c ≡ [])

-- the rectangle is valid, and overflow is neither visible nor auto
abbrev pub KeptIn : Element → Rect → Type 0
KeptIn e r = (valid_rect r ≡ true) × (overflows e ≡ false)

-- both sizes are set, or at least one comes from its use
abbrev pub Sized : Element → State → Type 0
Sized e s =
    ((is_some (length_of e Width) ≡ true) × (is_some (length_of e Height) ≡ true))
    ⊎ ((is_some s.use_size.0 ≡ true) ⊎ (is_some s.use_size.1 ≡ true))

-- a nested svg clips to its resolved rectangle exactly when it is kept in and sized
abbrev pub SvgClips : Element → State → Converted → Type 0
SvgClips e s c = let r = resolved_rect e s.use_size s in ClipsTo c r (KeptIn e r × Sized e s)

-- a used symbol clips to its use's rectangle exactly when it is kept in
abbrev pub SymbolClips : Element → Element → State → Converted → Type 0
SymbolClips e symbol s c = let r = resolved_rect e (None, None) s in ClipsTo c r (KeptIn symbol r)

-- ---- matrices

-- the placing of a nested svg in its rectangle, and of a used symbol in its use's: the translation, and inside it the fit
abbrev pub svg_placing : Element → State → Matrix
svg_placing e s = placing (resolved_rect e s.use_size s) (fitted_view_box e)

abbrev pub symbol_placing : Element → Element → State → Matrix
symbol_placing e symbol s = placing (resolved_rect e (None, None) s) (fitted_view_box symbol)

-- the translation of a use by its x and y
abbrev pub use_translation : Element → State → Matrix
use_translation e s = translation (position s Across (length_of e X)) (position s Down (length_of e Y))

-- the group has this matrix, or was spare and is left out, its matrix being the identity
abbrev pub Has : Option Group → Matrix → Type 0
Has None m = is_identity m ≡ true
Has (Some g) m = g.matrix ≡ m

-- The own matrix stands outside the placing, which is the translation with the fit inside it:
-- with a clip in two groups, without one as a product in one.
abbrev pub OwnThenPlacing : Matrix → Matrix → Converted → Type 0
OwnThenPlacing T N c =
    ((clips c ≢ []) → Has c.outer T × Has c.inner N)
    × (clips c ≡ [] → (c.outer ≡ None) × Has c.inner (product T N))

-- The same for a use of a symbol, whose own group, inside, is to have the placing.
abbrev pub OwnThenSymbol : Matrix → Matrix → Converted → Type 0
OwnThenSymbol T N c =
    ((clips c ≢ []) → Has c.outer T × Has c.inner identity × (c.inside.symbol_matrix ≡ N))
    × (clips c ≡ [] → Has c.outer identity × (c.inner ≡ None) × (c.inside.symbol_matrix ≡ product T N))

-- one group at most, with this matrix alone and no clip
abbrev pub Alone : Option Group → Option Group → Matrix → Type 0
Alone there absent m = (absent ≡ None) × Has there m × (clip_of there ≡ [])

-- ---- goodness

abbrev pub Good : Option Group → Type 0
Good None = Unit {0}
Good (Some g) = good_group g ≡ true

-- every group is good, for an element whose opacity is from 0 to 1, and so is the matrix for a symbol inside
abbrev pub AllGood : Element → Converted → Type 0
AllGood e c = good_opacity (opacity_of e) ≡ true → Good c.outer × Good c.inner × (finite_matrix c.inside.symbol_matrix ≡ true)
