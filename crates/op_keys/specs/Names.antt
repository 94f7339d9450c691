-- Declarations by their names.
use Rattle.std.specs.Prelude.{ℕ, ◌+◌, not, Bool, true, ◌&&◌, if◌then◌else◌, List, [], ◌∷◌}
use Rattle.std.specs.List.{list_any}
use Rattle.std.specs.Str.{bytes_eq}
use Rattle.op_keys.specs.declared.declarations.ClientDecl.{ClientDecl}

-- the index of the first such name, counted from a number on; past the last if none has it
abbrev pub index_named : ℕ → List (List ℕ) → List ℕ → ℕ
index_named at [] n = at
index_named at (m ∷ ms) n = if bytes_eq m n then at else index_named (at + 1) ms n

-- the index of the first client of this pool and name, counted from a number on; past the last if there is none
abbrev pub client_index : ℕ → List ClientDecl → List ℕ → List ℕ → ℕ
client_index at [] pool n = at
client_index at (c ∷ cs) pool n = if bytes_eq c.pool pool && bytes_eq c.name n then at else client_index (at + 1) cs pool n

-- whether no name is there twice
abbrev pub are_apart : List (List ℕ) → Bool
are_apart [] = true
are_apart (n ∷ ns) = not (list_any (bytes_eq n) ns) && are_apart ns

-- the same client of the same pool
abbrev pub same_client : ClientDecl → ClientDecl → Bool
same_client a b = bytes_eq a.name b.name && bytes_eq a.pool b.pool

-- whether no client of a pool is there twice
abbrev pub are_clients_apart : List ClientDecl → Bool
are_clients_apart [] = true
are_clients_apart (c ∷ cs) = not (list_any (same_client c) cs) && are_clients_apart cs
