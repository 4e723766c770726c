-- What a table holds.
use Rattle.std.specs.Prelude.{ℕ, List, take}
use Rattle.index_sets.specs.Sets.{IndexTest, among}
use Rattle.index_sets.specs.declared.table.Table.{Table}

-- the indexes of a table: the first of its row
abbrev pub indexes : Table → List ℕ
indexes t = take t.len t.items

-- the set that a table is
abbrev pub in_table : Table → IndexTest
in_table t = among (indexes t)
