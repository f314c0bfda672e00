-- The bench's kinds are lawful. These are proofs, which the kinds' impls cite.
use Rattle.std.proofs.Common.{arith}
use Rattle.records.specs.Kind.{Lawful}
use Rattle.records.proofs.Lexicographic.{lex_irrefl, lex_trans, lex_total_records}
use Rattle.records.proofs.Regular.{unsigned_regular, signed_regular}
use Rattle.bench.specs.Kinds.{step, limit}

pub step_lawful : Lawful step
step_lawful = record {
  word_some = omega arith;
  word_short = omega arith;
  word_bytes = omega arith;
  number_fits = omega arith;
  types_some = omega arith;
  types_few = omega arith;
  types_regular = (unsigned_regular 8 (omega arith) (omega arith), (unsigned_regular 1 (omega arith) (omega arith), (unsigned_regular 2 (omega arith) (omega arith), (unsigned_regular 4 (omega arith) (omega arith), tt))));
  irreflexive = λ r p. lex_irrefl r;
  total = lex_total_records step;
  transitive = λ r s u p q w. lex_trans r s u;
}

pub limit_lawful : Lawful limit
limit_lawful = record {
  word_some = omega arith;
  word_short = omega arith;
  word_bytes = omega arith;
  number_fits = omega arith;
  types_some = omega arith;
  types_few = omega arith;
  types_regular = (unsigned_regular 1 (omega arith) (omega arith), (signed_regular 2 (omega arith) (omega arith), (signed_regular 2 (omega arith) (omega arith), tt)));
  irreflexive = λ r p. lex_irrefl r;
  total = lex_total_records limit;
  transitive = λ r s u p q w. lex_trans r s u;
}
