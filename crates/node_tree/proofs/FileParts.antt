-- The parts of a file that stands for a sheet.
use Rattle.std.proofs.Common.{◌≡◌, ℕ, ◌+◌, ◌<◌, ◌≤◌, List, length, take, drop, refl, ap, ◌∙◌, sym, arith, subst, Ok}
use Rattle.node_layout.specs.declared.metadata.MetaSecret.{MetaSecret}
use Rattle.node_layout.specs.Opening.{OpensTo}
use Rattle.node_layout.specs.Places.{node_count}
use Rattle.node_tree.specs.Content.{first_text}
use Rattle.node_tree.specs.Sheet.{Sheet, plain_in, root_of, meta_of, Stands}
use Rattle.node_tree.specs.Opened.{Opened, NothingHeld, BlockOf, block_of}
use Rattle.node_tree.specs.Parts.{IsFilePart}
use Rattle.node_tree.specs.Standing.{StandingFile, EachStandingFile}
use Rattle.node_tree.proofs.Bytes.{content_is}
use Rattle.node_tree.proofs.SameBytes.{slice_bytes}
use Rattle.node_tree.proofs.Standing.{node_there, plain_in-there, meta_is_text, opened_there, whole_0, plain_0, flag_0, meta_0}
use Rattle.node_tree.proofs.Lively.{touched_low, touched_live}
use Rattle.node_tree.proofs.Fresh.{slices}
use Rattle.node_tree.proofs.Pieces.{pieces_joined}

-- the fields of a sheet's metadata
abbrev secret_of : Sheet → MetaSecret
secret_of sheet = record { path = sheet.path; size = length sheet.content; root_key = (root_of sheet.nodes).0; root_tag = (root_of sheet.nodes).1; first = first_text sheet.content }

module _ (file user : List ℕ) (sheet : Sheet) (user_length : length user ≡ 16) (stands : Stands file user sheet) where
  node_opened : (k : ℕ) → 1 ≤ k → k < node_count (length sheet.content) → Opened NothingHeld (BlockOf file) (root_of sheet.nodes) k (plain_in sheet k)
  node_opened k low live =
      let all = stands.linked.all_nodes in
      let there = node_there sheet k low (omega arith) in
      subst (λ (p : List ℕ). Opened NothingHeld (BlockOf file) (root_of sheet.nodes) k p) (sym (plain_in-there sheet k there.0 there.1)) (opened_there sheet stands.linked file user user_length stands k there.0 there.1)

  part_there : (at n : ℕ) → at + n ≤ length sheet.content → IsFilePart file (secret_of sheet) at n (Ok (take n (drop at sheet.content)))
  part_there at n le = record {
    plain = plain_in sheet;
    each = λ k touched. node_opened k (touched_low at (at + n) k touched) (touched_live at (at + n) (length sheet.content) k le touched);
    are = ap (λ (t : List ℕ). take n (drop at t)) (content_is sheet.content (plain_in sheet) (slices sheet stands.linked)) ∙ slice_bytes (first_text sheet.content) (plain_in sheet) at n (length sheet.content) le;
  }

  standing : StandingFile file user sheet
  standing =
      let opens_to : OpensTo user (block_of file 0) (secret_of sheet) = (meta_of sheet, meta_0 sheet stands.linked file user user_length stands, meta_is_text sheet stands.linked) in
      let joined = pieces_joined file (secret_of sheet) sheet.content refl part_there (length sheet.content) 0 (omega arith) in
      record {
        whole = whole_0 sheet stands.linked file user user_length stands;
        plain = plain_0 sheet stands.linked file user user_length stands;
        flag = flag_0 sheet stands.linked file user user_length stands;
        secret = secret_of sheet;
        opens_to = opens_to;
        fields = meta_is_text sheet stands.linked;
        parts = part_there;
        pieces = joined.0;
        are_pieces = record { secret = secret_of sheet; opens_to = opens_to; pieces_are = joined.1 };
        joined = joined.2;
      }

pub standing_file : EachStandingFile
standing_file file user sheet user_length stands = standing file user sheet user_length stands
