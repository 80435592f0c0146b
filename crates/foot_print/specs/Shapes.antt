-- A view of code: the shape of an operation that a value of the program stands for.
use Rattle.std.specs.Option.{option_map}
use Rattle.entry_checks.specs.Meant.{file_meant, flags_meant, path_meant, span_meant}
use Rattle.foot_print.specs.declared.shape.Shape.{Shape}
use Rattle.foot_print.specs.declared.shape.Shape.TheVariants as code
use Rattle.op_meaning.specs.Shape as model
use Rattle.op_meaning.specs.Shape.{idle, looking, moving, allocating, resizing, closing, opening, measuring, making, freeing, linking, renaming, holding, holding_path, holding_copy, holding_other, seeking}

abbrev pub shape_meant : Shape → model.Shape
shape_meant code.Idle = idle
shape_meant (code.Looking f) = looking (file_meant f)
shape_meant (code.Moving w f o n x) = moving w (file_meant f) o n (option_map span_meant x)
shape_meant (code.Allocating f o n mode) = allocating (file_meant f) o n mode
shape_meant (code.Resizing f n) = resizing (file_meant f) n
shape_meant (code.Closing f) = closing (file_meant f)
shape_meant (code.Opening p g asked) = opening (path_meant p) (flags_meant g) asked
shape_meant (code.Measuring p) = measuring (path_meant p)
shape_meant (code.Making p) = making (path_meant p)
shape_meant (code.Freeing p removes) = freeing (path_meant p) removes
shape_meant (code.Linking old new) = linking (path_meant old) (path_meant new)
shape_meant (code.Renaming old new) = renaming (path_meant old) (path_meant new)
shape_meant (code.Holding f) = holding (file_meant f)
shape_meant (code.HoldingPath f p g) = holding_path (file_meant f) (path_meant p) (flags_meant g)
shape_meant (code.HoldingCopy f r source) = holding_copy (file_meant f) r (file_meant source)
shape_meant (code.HoldingOther f) = holding_other (file_meant f)
shape_meant (code.Seeking f) = seeking (file_meant f)
