-- The value that a primitive stands for.
use Rattle.std.specs.String.{string_bytes}
use Rattle.serde_json.specs.Data.{Data, null, boolean, string}
use Rattle.estree_json.specs.declared.texts.Primitive.{Primitive}
use Rattle.estree_json.specs.declared.texts.Primitive.TheVariants.{Null, Boolean, Text}

abbrev pub data_of : Primitive → Data
data_of Null = null
data_of (Boolean flag) = boolean flag
data_of (Text s) = string (string_bytes s)
