use Rattle.std.proofs.Common.{arith, ◌≡◌, ◌≢◌, ◌<◌, ◌-◌, ◌∷◌, ◌++◌, ◌∙◌, ap, replicate, length, ℕ, List}
use Rattle.std.proofs.lemmas.Bool.Decides.{nat_tests}
use Rattle.aes_gcm.specs.Cipher.{xor_bytes, cipher}
use Rattle.cmac_kdf.specs.Cmac.{finished, first_subkey, second_subkey, doubled_block}
use Rattle.cmac_kdf.proofs.chain.finish.Goals as goal

finished-whole : (key rest : List ℕ) → length rest ≡ 16 → xor_bytes rest (first_subkey key) ≡ finished key rest
finished-whole key rest l = grind (arith, nat_tests)

finished-part : (key rest : List ℕ) → length rest < 16 → xor_bytes (rest ++ 0x80 ∷ replicate (15 - length rest) 0) (second_subkey key) ≡ finished key rest
finished-part key rest lt = grind (arith, nat_tests)

-- the first subkey, as it is computed
first_is : (key block : List ℕ) → block ≡ cipher key (replicate 16 0) → doubled_block block ≡ first_subkey key
unfolding first_subkey
first_is key block e = ap doubled_block e

second_is : (key block : List ℕ) → block ≡ first_subkey key → doubled_block block ≡ second_subkey key
unfolding second_subkey
second_is key block e = ap doubled_block e

pub returns-in-Some : goal.returns-in-Some
returns-in-Some c =
    let subkey = c.double-subkey.ensures ∙ first_is c.args.key.now c.encrypt_block.result c.encrypt_block.ensures in
    let chunk = c.in-Some.ensures.cases in
    let whole = finished-whole c.args.key.now c.args.rest.now chunk.long in
    let same = chunk.same in
    cc

pub returns-in-None : goal.returns-in-None
returns-in-None c =
    let subkey = c.double-subkey.ensures ∙ first_is c.args.key.now c.encrypt_block.result c.encrypt_block.ensures in
    let second = c.double.ensures ∙ second_is c.args.key.now c.double-subkey.result subkey in
    let ne : length c.args.rest.now ≢ 16 = c.in-None.ensures.cases in
    let part = finished-part c.args.key.now c.args.rest.now (omega arith) in
    cc
