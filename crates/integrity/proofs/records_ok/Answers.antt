use Rattle.integrity.proofs.Ranges.{stops, goes_on}
use Rattle.integrity.specs.Records.{records_ok}
use Rattle.integrity.proofs.records_ok.Goals as goal

pub returns-then-not-each_ok : goal.returns-then-not-each_ok
unfolding records_ok
returns-then-not-each_ok c = stops _ c.each_ok.ensures c.if-not-each_ok.true

pub returns-then-not-all_chains_sound : goal.returns-then-not-all_chains_sound
unfolding records_ok
returns-then-not-all_chains_sound c =
    goes_on c.each_ok.ensures c.if-not-each_ok.false
    (stops _ c.all_chains_sound.ensures c.if-not-all_chains_sound.true)

pub returns : goal.returns
unfolding records_ok
returns c =
    goes_on c.each_ok.ensures c.if-not-each_ok.false
    (goes_on c.all_chains_sound.ensures c.if-not-all_chains_sound.false c.all_stand_once.ensures)
