use Rattle.std.proofs.Common.{ap, ◌∙◌, arith, w32}
use Rattle.std.specs.Int.{from_le_bytes}
use Rattle.words.proofs.Load.{word_of}
use Rattle.words.proofs.load_4.Goals as goal

pub returns : goal.returns
returns c = c.from_le_bytes.ensures ∙ ap (from_le_bytes w32) c.chunk.ensures ∙ word_of 3 c.args.s.now (omega arith)
