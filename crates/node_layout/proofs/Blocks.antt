-- A sealed metadata node, by its places.
use Rattle.std.proofs.Common.{◌≡◌, ℕ, List, [], ◌∷◌, ◌++◌, length, get_or, take, drop, replicate, refl, sym, ap, ◌∙◌, arith, append_assoc}
use Rattle.std.specs.Prelude.{Some}
use Rattle.std.proofs.lemmas.List.{length-append, length-replicate, get_or-take, get_or-drop}
use Rattle.aes_gcm.specs.Gcm.{seal, opens}
use Rattle.aes_gcm.proofs.Sealed.{opens_sealed, length-sealed}
use Rattle.cmac_kdf.specs.MetadataKey.{metadata_key}
use Rattle.node_layout.specs.Metadata.{IsPlain, magic, nonce_at, tag_at, part_at, flag_at, meta_opens, meta_block}
use Rattle.node_layout.proofs.Rows.{piece_at}
use Rattle.node_layout.proofs.Lengths.{length-metadata_key, length-tag}

abbrev head : List ℕ
head = magic ++ (1 ∷ 0 ∷ [])

-- the node of a nonce, a tag and an encrypted part
abbrev node_of : List ℕ → List ℕ → List ℕ → List ℕ
node_of nonce tag part = head ++ nonce ++ tag ++ (0 ∷ []) ++ part ++ replicate 157 0

regrouped : {X : Type 0} (a b c d e f : List X) → a ++ b ++ c ++ d ++ e ++ f ≡ a ++ (b ++ (c ++ (d ++ (e ++ f))))
regrouped a b c d e f = simp append_assoc

nonce_of : (nonce tag part : List ℕ) → length nonce ≡ 32 → nonce_at (node_of nonce tag part) ≡ nonce
nonce_of nonce tag part l = piece_at 10 32 (node_of nonce tag part) head nonce (tag ++ ((0 ∷ []) ++ (part ++ replicate 157 0))) (regrouped head nonce tag (0 ∷ []) part (replicate 157 0)) refl l

length-front : (nonce tag : List ℕ) → length nonce ≡ 32 → length tag ≡ 16 → length (head ++ nonce ++ tag) ≡ 58
length-front nonce tag l k = omega (arith, length-append (head ++ nonce) tag, length-append head nonce)

tag_of : (nonce tag part : List ℕ) → length nonce ≡ 32 → length tag ≡ 16 → tag_at (node_of nonce tag part) ≡ tag
tag_of nonce tag part l k = piece_at 42 16 (node_of nonce tag part) (head ++ nonce) tag ((0 ∷ []) ++ (part ++ replicate 157 0)) (regrouped head nonce tag (0 ∷ []) part (replicate 157 0) ∙ simp append_assoc) (omega (arith, length-append head nonce)) k

flag_of : (nonce tag part : List ℕ) → length nonce ≡ 32 → length tag ≡ 16 → flag_at (node_of nonce tag part) ≡ 0
flag_of nonce tag part l k =
    let node = node_of nonce tag part in
    let one : take 1 (drop 58 node) ≡ 0 ∷ [] = piece_at 58 1 node (head ++ nonce ++ tag) (0 ∷ []) (part ++ replicate 157 0) (regrouped head nonce tag (0 ∷ []) part (replicate 157 0) ∙ simp append_assoc) (length-front nonce tag l k) refl in
    sym (get_or-take 1 (drop 58 node) 0 0 (omega arith) ∙ get_or-drop 58 node 0 0) ∙ ap (λ t. get_or t 0 0) one

part_of : (nonce tag part : List ℕ) → length nonce ≡ 32 → length tag ≡ 16 → length part ≡ 3880 → part_at (node_of nonce tag part) ≡ part
part_of nonce tag part l k m =
    piece_at 59 3880 (node_of nonce tag part) (head ++ nonce ++ tag ++ (0 ∷ [])) part (replicate 157 0) (regrouped head nonce tag (0 ∷ []) part (replicate 157 0) ∙ simp append_assoc) (omega (arith, length-append (head ++ nonce ++ tag) (0 ∷ []), length-front nonce tag l k)) m

length-node : (nonce tag part : List ℕ) → length nonce ≡ 32 → length tag ≡ 16 → length part ≡ 3880 → length (node_of nonce tag part) ≡ 4096
length-node nonce tag part l k m =
    let before : length (head ++ nonce ++ tag ++ (0 ∷ [])) ≡ 59 = omega (arith, length-append (head ++ nonce ++ tag) (0 ∷ []), length-front nonce tag l k) in
    omega (arith, length-append (head ++ nonce ++ tag ++ (0 ∷ []) ++ part) (replicate 157 0), length-append (head ++ nonce ++ tag ++ (0 ∷ [])) part, length-replicate {A = ℕ} 157 0)

-- the tag in a sealed node
length-sealed_tag : (user nonce text : List ℕ) → length user ≡ 16 → length (seal (metadata_key user nonce) [] text).1 ≡ 16
length-sealed_tag user nonce text h = length-tag (metadata_key user nonce) [] text (length-metadata_key user nonce h)

pub IsPlain-meta_block : (user nonce text : List ℕ) → IsPlain (meta_block user nonce text)
unfolding meta_block
IsPlain-meta_block user nonce text = record { magic_is = refl; major = refl; minor = refl }

pub nonce_at-meta_block : (user nonce text : List ℕ) → length nonce ≡ 32 → nonce_at (meta_block user nonce text) ≡ nonce
unfolding meta_block
nonce_at-meta_block user nonce text l = let sealed = seal (metadata_key user nonce) [] text in nonce_of nonce sealed.1 sealed.0 l

pub flag_at-meta_block : (user nonce text : List ℕ) → length user ≡ 16 → length nonce ≡ 32 → flag_at (meta_block user nonce text) ≡ 0
unfolding meta_block
flag_at-meta_block user nonce text u l = let sealed = seal (metadata_key user nonce) [] text in flag_of nonce sealed.1 sealed.0 l (length-sealed_tag user nonce text u)

pub length-meta_block : (user nonce text : List ℕ) → length user ≡ 16 → length nonce ≡ 32 → length text ≡ 3880 → length (meta_block user nonce text) ≡ 4096
unfolding meta_block
length-meta_block user nonce text u l m =
    let sealed = seal (metadata_key user nonce) [] text in
    length-node nonce sealed.1 sealed.0 l (length-sealed_tag user nonce text u) (length-sealed (metadata_key user nonce) [] text ∙ m)

opened : (user nonce nonce_there tag tag_there part part_there text : List ℕ) → nonce_there ≡ nonce → tag_there ≡ tag → part_there ≡ part → opens (metadata_key user nonce) [] part tag ≡ Some text → opens (metadata_key user nonce_there) [] part_there tag_there ≡ Some text
opened user nonce nonce_there tag tag_there part part_there text a b c e = rw (a, b, c) e

pub meta_opens-meta_block : (user nonce text : List ℕ) → length user ≡ 16 → length nonce ≡ 32 → length text ≡ 3880 → meta_opens user (meta_block user nonce text) ≡ Some text
unfolding meta_opens meta_block
meta_opens-meta_block user nonce text u l m =
    let key = metadata_key user nonce in
    let part : List ℕ = (seal key [] text).0 in
    let tag : List ℕ = (seal key [] text).1 in
    let node : List ℕ = node_of nonce tag part in
    let k : length tag ≡ 16 = length-sealed_tag user nonce text u in
    let nonce_is = nonce_of nonce tag part l in
    let tag_is = tag_of nonce tag part l k in
    let part_is = part_of nonce tag part l k (length-sealed key [] text ∙ m) in
    opened user nonce (nonce_at node) tag (tag_at node) part (part_at node) text nonce_is tag_is part_is (opens_sealed key [] text)
