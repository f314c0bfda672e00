use Rattle.records.proofs.Lines.{split_lines, lines_few}
use Rattle.records.proofs.reader.LineReader.new.Goals as goal

pub returns-clause-whole : goal.returns-clause-whole
returns-clause-whole c = split_lines c.args.text.now

pub returns-clause-few : goal.returns-clause-few
returns-clause-few c = lines_few c.args.text.now
