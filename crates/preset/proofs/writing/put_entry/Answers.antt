use Rattle.std.proofs.Common.{[], ◌∷◌, ◌++◌, get_or, take, ap, ◌∙◌, subst}
use Rattle.preset.specs.Presets.{row_numbers}
use Rattle.preset.specs.Width.{number_bytes, two_bytes}
use Rattle.preset.proofs.Writes.{Put, put_two}
use Rattle.preset.proofs.writing.put_entry.Goals as goal

pub returns : goal.returns
returns c =
    let p = c.args.preset.now in
    let b0 = c.args.buffer.now in
    let b1 = c.put-name.new.buffer in
    let b2 = c.put-rows.new.buffer in
    let b3 = c.put-m.new.buffer in
    let b4 = c.put-u.new.buffer in
    let b5 = c.put.new.buffer in
    let f1 : Put c.args.at c.put-name.result b0 b1 (number_bytes p.number.value) =
    subst (λ t. Put c.args.at c.put-name.result b0 b1 t) c.bytes.ensures (record { ends = c.put-name.ensures.end; front = c.put-name.ensures.front; back = c.put-name.ensures.back }) in
    let f2 : Put c.put-name.result c.put-rows.result b1 b2 (two_bytes c.args.name_at ++ (p.name.length ∷ [])) =
    record { ends = c.put-rows.ensures.end; front = c.put-rows.ensures.front ∙ ap (λ bs. take c.put-name.result b1 ++ (get_or bs 0 0 ∷ get_or bs 1 0 ∷ p.name.length ∷ [])) c.to_two_bytes.ensures; back = c.put-rows.ensures.back } in
    let f3 : Put c.put-rows.result c.put-m.result b2 b3 (row_numbers p.rows.o) =
    subst (λ t. Put c.put-rows.result c.put-m.result b2 b3 t) c.numbers.ensures (record { ends = c.put-m.ensures.end; front = c.put-m.ensures.front; back = c.put-m.ensures.back }) in
    let f4 : Put c.put-m.result c.put-u.result b3 b4 (row_numbers p.rows.m) =
    subst (λ t. Put c.put-m.result c.put-u.result b3 b4 t) c.numbers-2.ensures (record { ends = c.put-u.ensures.end; front = c.put-u.ensures.front; back = c.put-u.ensures.back }) in
    let f5 : Put c.put-u.result c.put.result b4 b5 (row_numbers p.rows.u) =
    subst (λ t. Put c.put-u.result c.put.result b4 b5 t) c.numbers-3.ensures (record { ends = c.put.ensures.end; front = c.put.ensures.front; back = c.put.ensures.back }) in
    let all = put_two _ _ _ _ _ _ _ _ f1 (put_two _ _ _ _ _ _ _ _ f2 (put_two _ _ _ _ _ _ _ _ f3 (put_two _ _ _ _ _ _ _ _ f4 f5))) in
    record { end = all.ends; front = all.front; back = all.back }
