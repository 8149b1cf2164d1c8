use mathlib.Core.Path.{ap, ◌∙◌}
use Rattle.actl.specs.Formulas.{class_of}
use Rattle.actl.proofs.Nodes.{size_pos}
use Rattle.explaining.proofs.Told.{first-node}
use Rattle.explaining.proofs.finishing.class_of.Goals as goal

pub returns : goal.returns
returns c =
    λ n F e. c.from.ensures ∙ (c.shape_of-shape.ensures n F e).classes 0 (size_pos F) ∙ ap class_of (first-node F)
