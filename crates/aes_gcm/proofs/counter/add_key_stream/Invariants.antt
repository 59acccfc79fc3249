use Rattle.std.proofs.Common.{◌≡◌, ◌+◌, ◌*◌, ◌/◌, ◌%◌, ◌<◌}
use Rattle.aes_gcm.specs.Cipher.{cipher}
use Rattle.aes_gcm.specs.Gcm.{counter_block}
use Rattle.aes_gcm.proofs.KeyStream.{Added}
use Rattle.aes_gcm.proofs.counter.add_key_stream.Given as goal

abbrev pub invariant-loop-group : goal.invariant-loop-group
invariant-loop-group l = Added l.key l.fn.text l.text (64 * l.group)

abbrev pub invariant-loop-j : goal.invariant-loop-j
invariant-loop-j l =
    record {
      done : Added l.key l.fn.text l.text l.j;
      current_pad : 0 < l.j % 16 → l.pad ≡ cipher l.key (counter_block (2 + l.j / 16));
    }
