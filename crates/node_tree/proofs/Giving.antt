-- What is given of a sheet: where nothing is forged, and where a file stands for it.
use Rattle.std.proofs.Common.{◌≡◌, ℕ, ◌*◌, List, [], length, ap, ◌∙◌, sym, Some}
use Rattle.std.specs.List.{AllByRecursion}
use Rattle.std.proofs.lemmas.List.Elements.{All-from_recursion, All-contains}
use Rattle.std.proofs.lemmas.Option.{same_Some}
use Rattle.aes_gcm.specs.Gcm.{opens}
use Rattle.node_layout.specs.Metadata.{meta_opens, nonce_at}
use Rattle.pf_io.specs.Host.{Name, Files, Answer, Gave, contents}
use Rattle.node_tree.specs.Sheet.{tag_of}
use Rattle.node_tree.specs.Opened.{BlockOf, block_of, Given}
use Rattle.node_tree.specs.Unforged.{EachUnforgedGives, EachFileGives}
use Rattle.node_tree.proofs.Standing.{opens_there, whole_0, nonce_0, meta_0}
use Rattle.pf_io.specs.Answered.{IsAnswerOf}

pub unforged_gives : EachUnforgedGives
unforged_gives user sheets given unforged = record {
  nodes = λ name sheet among. record {
    linked = unforged.linked sheet among;
    seals = λ k block plain node gave whole has opens. unforged.seals block plain sheet k node (record { name = name; place = 4096 * k; room = 4096; there = gave; whole = whole }) among has opens;
  };
  node_0 = λ block text gave opened.
      let there = unforged.metadata block text gave opened in
      (there.0, there.1, record { nonce = there.2; metadata = opened ∙ ap (λ (t : List ℕ). Some t) there.3 });
}

pub file_block : (files : Files) (name : Name) (given : List Answer) → AllByRecursion (IsAnswerOf files) given → (k : ℕ) (block : List ℕ) → Given name given k block → BlockOf (contents (files name)) k block
file_block files name given all k block gave = All-contains (IsAnswerOf files) given (Gave name (4096 * k) 4096 block) (All-from_recursion (IsAnswerOf files) given all) gave

pub file_gives : EachFileGives
file_gives user files name sheet given user_length all stands = record {
  nodes = record {
    linked = stands.linked;
    seals = λ k block plain node gave whole has o.
        let there = opens_there sheet stands.linked (contents (files name)) user user_length stands k node has in
        same_Some plain node.plain (sym o ∙ ap (λ (b : List ℕ). opens node.key [] b (tag_of node)) (file_block files name given all k block gave) ∙ there.opened);
  };
  node_0 = λ block gave.
      let is : block ≡ block_of (contents (files name)) 0 = file_block files name given all 0 block gave in
      let file = contents (files name) in (
        ap length is ∙ whole_0 sheet stands.linked file user user_length stands,
        record {
          nonce = ap nonce_at is ∙ nonce_0 sheet stands.linked file user user_length stands;
          metadata = ap (λ (b : List ℕ). meta_opens user b) is ∙ meta_0 sheet stands.linked file user user_length stands;
        },
      );
}
