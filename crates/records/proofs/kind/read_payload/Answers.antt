use Rattle.std.proofs.Common.{◌≡◌, rules}
use Rattle.records.specs.Meaning.{row_by}
use Rattle.records.specs.Payload.{record_of}
use Rattle.records.proofs.RoundTrip.{reads_back}
use Rattle.records.proofs.kind.read_payload.Goals as goal

pub returns-clause-reads_back : goal.returns-clause-reads_back
returns-clause-reads_back g c =
    let value : row_by g.K.RecordKind.numbers c.then_some.result ≡ record_of g.K.RecordKind.means c.args.bytes.now = search rules in
    reads_back g.K.RecordKind.means c.args.bytes.now _ g.met.K.RecordKind.lawful value
