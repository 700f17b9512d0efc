use Rattle.std.proofs.Common.{◌≡◌, length, get_or, arith, ap, sym, ◌∙◌}
use Rattle.rt_json.specs.Words.{word_rest}
use Rattle.rt_json.proofs.Scalars.{word_first, word_next, word_stops, word_ok}
use Rattle.rt_json.proofs.scalar.word.Goals as goal
use Rattle.rt_json.proofs.scalar.word.Goals.{then-to-bytes-via-then-to-bytes, then-to-bytes-via-else-to-bytes+then-bytes-to}

pub loop-letter-init : goal.loop-letter-init
loop-letter-init c =
    let lt = c.requires.within in
    record { from = omega arith; within = omega (arith, lt); leads = word_first c.args.bytes.now c.args.at c.args.word lt c.requires.begins }

pub loop-letter-preserved : goal.loop-letter-preserved
loop-letter-preserved c =
    let is = c.word_rest-letter-items.ensures in
    let lt = c.loop-letter-test.true in
    let le = c.loop-letter.invariant.within in
    let letters : length c.word_rest-letter-items.result.now ≡ length (word_rest c.args.word) = ap length is in
    record {
      from = omega arith;
      within = omega arith;
      leads = word_next c.args.bytes.now c.args.at c.loop-letter.to c.loop-letter.letter-index c.args.word (omega (arith, lt, letters)) (omega arith)
          (c.if-bytes-to.false ∙ ap (λ xs. get_or xs c.loop-letter.letter-index 0) is) c.loop-letter.invariant.leads;
    }

pub returns-then-to-bytes : goal.returns-then-to-bytes
returns-then-to-bytes c =
    let is = c.word_rest-letter-items.ensures in
    let lt = c.loop-letter-test.true in
    let letters : length c.word_rest-letter-items.result.now ≡ length (word_rest c.args.word) = ap length is in
    word_stops c.args.bytes.now c.args.at c.loop-letter.to c.loop-letter.letter-index c.args.word (omega (arith, lt, letters)) c.loop-letter.invariant.within
    (λ less e. elim c.then-to-bytes.branch [
      | then-to-bytes-via-then-to-bytes w ↦ omega (arith, w.if-to-bytes.true, less)
      | then-to-bytes-via-else-to-bytes+then-bytes-to w ↦ w.if-bytes-to.true (e ∙ sym (ap (λ xs. get_or xs c.loop-letter.letter-index 0) is))
    ])
    c.loop-letter.invariant.leads

pub returns : goal.returns
returns c =
    let is = c.word_rest-letter-items.ensures in
    let ge = c.loop-letter-test.false in
    let letters : length c.word_rest-letter-items.result.now ≡ length (word_rest c.args.word) = ap length is in
    word_ok c.args.bytes.now c.args.at c.loop-letter.to c.loop-letter.letter-index c.args.word c.word_tree.result (omega (arith, ge, letters)) c.loop-letter.invariant.from c.loop-letter.invariant.within
    c.word_tree.ensures c.loop-letter.invariant.leads
