-- The JSON that stands behind a reference to a node.
use Rattle.serde_json.specs.Data.{Data}
use Rattle.tree.specs.Node.{node_tree}
use Rattle.estree_json.specs.declared.estree.Estree.{Estree}
use Rattle.estree_json.specs.Json.{node_json}

unfoldable pub estree_data : Estree → Data
estree_data e = node_json e.is_last (node_tree e.node)
