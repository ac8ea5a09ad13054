use Rattle.std.proofs.Common.{◌≡◌, ℕ, List, ◌++◌, length, append_assoc, None, ap, ◌∙◌}
use Rattle.std.proofs.lemmas.Result.{IfOk-equal}
use Rattle.preset.specs.Calls.{Lists}
use Rattle.preset.specs.Entries.{decoded, first_refusal}
use Rattle.preset.specs.Format.{Named}
use Rattle.preset.specs.Presets.{all_named}
use Rattle.preset.specs.declared.preset.Preset.{Preset}
use Rattle.listing.specs.Report.{all_lines, outcome, wrote_line}
use Rattle.listing.specs.declared.lines.Verdict.{Verdict}
use Rattle.listing.specs.declared.lines.Verdict.TheVariants.{Same}
use Rattle.listing.proofs.text.put_outcome.Goals as goal

-- the presets that were handed out are those of the bytes
all_of : {b f : List ℕ} {ps qs : List Preset} → qs ≡ ps → Lists f ps → f ≡ b → all_named f qs ≡ decoded b
all_of {f = f} handed l read = ap (all_named f) handed ∙ l.presets ∙ ap decoded read

pub put_presets-requires-clause-sound : goal.put_presets-requires-clause-sound
put_presets-requires-clause-sound c =
    rw (all_of c.as_slice.ensures c.presets-presets.ensures c.in-Ok.ensures.answer.1) c.in-Ok.ensures.exactly_valid_lists.0.valid.sound

-- the lines of a file's presets, and then the last line
whole : (b before then : List ℕ) (ps : List Named) (n : ℕ) (v : Verdict) → first_refusal b ≡ None → ps ≡ decoded b
    → then ≡ before ++ all_lines ps → n ≡ length b → v ≡ Same → then ++ wrote_line n v ≡ before ++ outcome b (first_refusal b)
whole b before then ps n v none all put long same =
    let parts = append_assoc before (all_lines (decoded b)) (wrote_line (length b) Same) in
    let told = ap (outcome b) none in
    cc

pub returns-in_ok-back-in-Ok : goal.returns-in_ok-back-in-Ok
returns-in_ok-back-in-Ok c =
    let all = all_of c.as_slice.ensures c.presets-presets.ensures c.in-Ok.ensures.answer.1 in
    let back = c.in_ok-back-in-Ok.ensures in
    IfOk-equal _ _ _ _ c.write.ensures.bytes
    (whole _ _ _ _ _ _ c.in-Ok.ensures.answer.0 all c.in_ok-put_presets-in-Ok.ensures back.length back.same)
