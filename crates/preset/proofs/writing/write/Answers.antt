use Rattle.preset.proofs.Writes.{drafted_back}
use Rattle.preset.proofs.writing.write.Goals as goal

pub returns-clause-read_back : goal.returns-clause-read_back
returns-clause-read_back c =
    let r = drafted_back c.args.text.now c.args.presets.now c.in_ok-draft.draft c.args.buffer.now c.put_all.new.buffer c.in_ok-draft.ensures c.put_all.ensures in
    (r.accepted, r.holds)
