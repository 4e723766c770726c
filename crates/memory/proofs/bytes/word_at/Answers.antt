use Rattle.std.proofs.Common.{◌≡◌, ◌∙◌, rules, w32}
use Rattle.std.specs.Int.{from_le_bytes}
use Rattle.std.specs.Option.{option_map}
use Rattle.memory.proofs.Items.{item}
use Rattle.memory.proofs.Packed.{chunk_is}
use Rattle.memory.proofs.bytes.word_at.Goals as goal

pub returns : goal.returns
returns c =
    let chunks = c.as_chunks.ensures in
    let found = c.copied.ensures ∙ item c.as_chunks.result.0.now c.args.index c.get.result c.get.ensures.lookup in
    let word : c.map.result ≡ option_map (from_le_bytes w32) c.copied.result = search rules in
    rw (word, found) (chunk_is c.args.bytes.now c.args.index c.as_chunks.result.0.now chunks.front chunks.front_len)
