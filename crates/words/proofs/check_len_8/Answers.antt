use Rattle.std.specs.Char.{is_ascii_digit}
use Rattle.words.proofs.Runs.{run_length}
use Rattle.words.proofs.DigitTest.{digit_word, digit_tests}
use Rattle.words.proofs.check_len_8.Goals as goal

pub returns : goal.returns
returns c = run_length is_ascii_digit digit_word digit_tests 8 c.args.val
