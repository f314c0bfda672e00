use Rattle.words.specs.Bytes.{is_zero}
use Rattle.words.proofs.Runs.{run_length}
use Rattle.words.proofs.ZeroTest.{zero_word, zero_tests}
use Rattle.words.proofs.len_zeroes.Goals as goal

pub returns : goal.returns
returns c = run_length is_zero zero_word zero_tests 8 c.args.val
