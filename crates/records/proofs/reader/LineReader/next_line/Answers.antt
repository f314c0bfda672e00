use Rattle.std.proofs.Common.{◌≡◌, ◌+◌, ◌-◌, ◌∷◌, take, drop, ap, sym, ◌∙◌, ap₂, rules}
use Rattle.records.specs.Text.{lines_of, line_end, next_start}
use Rattle.records.proofs.Lines.{line_at}
use Rattle.records.proofs.reader.LineReader.next_line.Goals as goal

pub returns-clause-lines : goal.returns-clause-lines
returns-clause-lines c =
    let text = c.args.self.now.text.now in
    let at = c.args.self.now.at in
    let end : at + c.count_before.result ≡ line_end c.args.self.now.text.now c.args.self.now.at = search rules in
    let next : c.min-self.result ≡ next_start c.args.self.now.text.now c.args.self.now.at = search rules in
    let line = ap (λ e. take (e - at) (drop at text)) end in
    line_at text at c.if-start-text.false ∙ sym (ap₂ (λ l n. l ∷ lines_of (drop n text)) line next)
