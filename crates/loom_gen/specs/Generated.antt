-- Generated images: one heap for each number. Its objects are those of the table, 256 characters, and nodes, 1,000 more than those of
-- the number before. Each node holds another, so that they can be walked for ever.
use Rattle.std.specs.Prelude.{ℕ, ◌+◌, ◌-◌, ◌*◌, ◌/◌, ◌%◌, ◌==◌, nat_lt, [], ◌∷◌, Option, Some, None, if◌then◌else◌}
use Rattle.std.specs.Map.{lookup}
use Rattle.long_names.specs.Names.{CHARACTER}
use Rattle.long_names.specs.Heap.{Heap}
use Rattle.long_names.specs.declared.value.Value.TheVariants.{Ref}
use Rattle.long_names.specs.declared.object.Object.{Object}
use Rattle.loom_gen.specs.declared.names.TheConstants.{FIRST_CHARACTER, FIRST_NODE}
use Rattle.loom_gen.specs.declared.nodes.TheConstants.{NODES_PER_NUMBER, STRIDE}
use Rattle.loom_gen.specs.Notation.{nil, int, of_class, array}
use Rattle.loom_gen.specs.Table.{node_name, table}

-- how many nodes the image of a number has
abbrev pub node_count : ℕ → ℕ
node_count number = NODES_PER_NUMBER * (number + 1)

-- its next name is behind the last node
abbrev pub next_name : ℕ → ℕ
next_name number = node_name (node_count number)

-- a character holds its number
abbrev pub character : ℕ → Object
character k = of_class CHARACTER (int k ∷ [])

-- a node holds the node that is a stride on, round past the last
abbrev pub node : ℕ → ℕ → Object
node number j = array (Ref (node_name ((j + STRIDE) % node_count number)) ∷ nil ∷ [])

-- the object of a name, where there is one: behind the table each even name has one, first the characters and then the nodes
unfoldable pub object_named : ℕ → ℕ → Option Object
object_named number n =
    if nat_lt n FIRST_CHARACTER then lookup (λ name. name == n) (table number)
    else (if n % 2 == 1 then None
    else (if nat_lt n FIRST_NODE then Some (character ((n - FIRST_CHARACTER) / 2))
    else (if nat_lt n (next_name number) then Some (node number ((n - FIRST_NODE) / 2)) else None)))

abbrev pub generated : ℕ → Heap
generated number = record { at = object_named number; next = next_name number }
