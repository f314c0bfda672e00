use Rattle.station.proofs.Spread.{lines_put}
use Rattle.station.proofs.output.put_sheet.Goals as goal

pub returns-clause-after : goal.returns-clause-after
returns-clause-after c =
    lines_put c.args.out.now c.args.frames.first c.args.frames.second c.requires c.spread.new.out c.put_text-end.new.out c.put_text.new.out c.spread-2.new.out c.put_text-end.result
    c.spread.ensures c.put_text-end.ensures.after c.put_text.ensures.after c.spread-2.ensures c.put_text-end.ensures.behind
