-- The size of a document, by its root.
use Rattle.std.specs.Prelude.{Result}
use Rattle.refusal.specs.declared.Refusal.{Refusal}
use Rattle.geom.specs.Root.{root_size}
use Rattle.geom.specs.declared.options.Options.{Options}
use Rattle.geom.specs.declared.root.RootSize.{RootSize}
use Rattle.element.specs.Attributes.{length_of, view_box_of}
use Rattle.element.specs.declared.element.Element.{Element}
use Rattle.element.specs.declared.value.Attribute.TheVariants.{Width, Height}

abbrev pub size_of : Element → Options → Result RootSize Refusal
size_of e options = root_size (record { width = length_of e Width; height = length_of e Height; view_box = view_box_of e }) options
