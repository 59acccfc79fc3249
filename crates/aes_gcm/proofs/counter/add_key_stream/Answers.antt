use Rattle.std.proofs.Common.{◌≡◌, ℕ, ◌+◌, ◌*◌, ◌/◌, [], ap, ◌∙◌, arith, rules, get_or, length}
use Rattle.aes_gcm.specs.Cipher.{cipher}
use Rattle.aes_gcm.specs.Gcm.{counter_block}
use Rattle.aes_gcm.proofs.KeyStream.{Added, none_added, block_added, byte_added, crypted_when_added}
use Rattle.aes_gcm.proofs.counter.add_key_stream.Goals as goal

pub loop-group-init : goal.loop-group-init
loop-group-init c = none_added c.args.key.now c.args.text.now

pub loop-group-preserved : goal.loop-group-preserved
loop-group-preserved c =
    let key = c.args.key.now in
    let old = c.args.text.now in
    let g : ℕ = c.loop-group.group in
    let at : ℕ = 64 * g in
    let counter : ℕ = 2 + 4 * g in
    let pads = c.four_pads.ensures in
    let one : counter + 1 ≡ 2 + (4 * g + 1) = omega arith in
    let two : counter + 1 + 1 ≡ 2 + (4 * g + 2) = omega arith in
    let three : counter + 1 + 1 + 1 ≡ 2 + (4 * g + 3) = omega arith in
    let end : at + 64 ≡ 64 * (g + 1) = omega arith in
    let first : Added key old c.add_pad.new.text (at + 16) =
    block_added key old c.loop-group.text (get_or c.four_pads.result 0 []) _ at (4 * g) (at + 16) c.loop-group.invariant (omega arith) (omega arith) (omega arith)
    (search rules) (ap (λ l. get_or l 0 []) pads) c.add_pad.ensures in
    let second : Added key old c.add_pad-in-loop-group.new.text (at + 32) =
    block_added key old c.add_pad.new.text (get_or c.four_pads.result 1 []) _ (at + 16) (4 * g + 1) (at + 32) first (omega arith) (omega arith) (omega arith)
    (search rules) (ap (λ l. get_or l 1 []) pads ∙ ap (λ n. cipher key (counter_block n)) one) c.add_pad-in-loop-group.ensures in
    let third : Added key old c.add_pad-in-loop-group-2.new.text (at + 48) =
    block_added key old c.add_pad-in-loop-group.new.text (get_or c.four_pads.result 2 []) _ (at + 32) (4 * g + 2) (at + 48) second (omega arith) (omega arith) (omega arith)
    (search rules) (ap (λ l. get_or l 2 []) pads ∙ ap (λ n. cipher key (counter_block n)) two) c.add_pad-in-loop-group-2.ensures in
    block_added key old c.add_pad-in-loop-group-2.new.text (get_or c.four_pads.result 3 []) _ (at + 48) (4 * g + 3) (64 * (g + 1)) third (omega arith) (omega arith) (omega arith)
    (search rules) (ap (λ l. get_or l 3 []) pads ∙ ap (λ n. cipher key (counter_block n)) three) c.add_pad-in-loop-group-3.ensures

pub loop-j-init : goal.loop-j-init
loop-j-init c =
    let n : ℕ = length c.args.text.now / 64 in
    let here : c.loop-group.group ≡ n = omega arith in
    record {
      done = rw here at c.loop-group.invariant;
      current_pad = λ h. absurd (omega arith);
    }

pub loop-j-preserved : goal.loop-j-preserved
loop-j-preserved c =
    let j = c.loop-j.j in
    let pad_is : c.if-j-eq0.pad ≡ cipher c.args.key.now (counter_block (2 + j / 16)) =
    elim c.if-j-eq0.branch [
      | goal.then-j-eq0 w ↦ w.pad-is ∙ w.encrypt_block-pad.ensures ∙ ap (cipher c.args.key.now) w.counter_block.ensures
      | goal.else-j-eq0 w ↦ w.pad-is ∙ c.loop-j.invariant.current_pad (omega (arith, w.if-j-eq0.false))
    ] in
    record {
      done = byte_added c.args.key.now c.args.text.now c.loop-j.text c.if-j-eq0.pad j c.loop-j.invariant.done (omega arith) pad_is;
      current_pad = λ h.
          let same_block : j / 16 ≡ (j + 1) / 16 = omega arith in
          pad_is ∙ ap (λ n. cipher c.args.key.now (counter_block (2 + n))) same_block;
    }

pub returns : goal.returns
returns c = crypted_when_added c.args.key.now c.args.text.now c.loop-j.text c.loop-j.j c.loop-j.invariant.done (omega arith)
