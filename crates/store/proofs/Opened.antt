-- Groups of definitions, for closed runs: whoever unfolds a group's name unfolds every definition on its line. Assumes
-- nothing.
use Rattle.term.specs.Bytes.{among, letter, alnum, iri_byte, text_byte, pair_byte, first_byte, label_byte, eq_bytes}
use Rattle.term.specs.Scanner.{kind_of, first_kind_of, run_of, step_of, whole_of}
use Rattle.term.specs.Canonical.{writes_string, canonical}
use Rattle.store.specs.Shared.{known, within, same, agrees, kinds_permitted, below, well_formed, name_of, text_bytes}
use Rattle.store.specs.Shared.{lookup_name, matches, better, pick}
use Rattle.store.specs.Tables.{fits, term_at, next_at, flag_at, triple_at, first_at, count_at, offset_at, kind_at, live_at}
use Rattle.store.specs.Model.{intern_name, intern_model, lookup, mark, put, assert_model, retract_entry, retract_model}
use Rattle.store.specs.Model.{on_chain, holders, pick_model, listing, open_model, read_rest, take_from, turn}
use Rattle.store.specs.Model.{next_model, unretracted, reclaim_model, call_model, model_replies}
use Rattle.store.specs.Walk.{entry_at, pick_chain, pickable, start_of, link_of, holds_resource, visitable, walk}
use Rattle.store.specs.Statement.{seek, countable, locate, tally_at, tally, append_record, link_first, link_record}
use Rattle.store.specs.Statement.{kinds_ok, asserting, assert_of, counting, retracting, retract_of}
use Rattle.store.specs.Statement.{assert_updating_of, retract_updating_of}
use Rattle.store.specs.Scan.{open_of, chain_ok, record_ok, cursor_ok, walk_from, next_of}
use Rattle.store.specs.Names.{compare_bytes, name_at, names_up_to}
use Rattle.store.specs.Dictionary.{find_of, rank, place_at, index_place_of, room_for, bring, insert_at, intern_as}
use Rattle.store.specs.Dictionary.{intern_of}
use Rattle.store.specs.Lists.{keep}
use Rattle.store.specs.Prefix.{begins, prefix_list, filled, prefix_of}
use Rattle.store.specs.Reclaim.{unlinked, sweep_one, sweep, blanked, swept_of, reclaim_of}
use Rattle.store.specs.History.{call_store, store_replies, store_after}

-- names and triples
unfoldable pub shared-definitions : Unit {0}
unfolding writes_string canonical kind_of first_kind_of run_of step_of whole_of among letter alnum iri_byte text_byte pair_byte
    first_byte label_byte eq_bytes well_formed lookup_name name_of text_bytes known within same agrees kinds_permitted below
    matches better pick
shared-definitions = tt

-- the plain lists
unfoldable pub list-definitions : Unit {0}
unfolding shared-definitions intern_name intern_model lookup mark put assert_model retract_entry retract_model on_chain
    holders pick_model listing open_model read_rest take_from turn next_model unretracted reclaim_model call_model model_replies
list-definitions = tt

-- the tables
unfoldable pub table-definitions : Unit {0}
unfolding shared-definitions fits term_at next_at flag_at triple_at first_at count_at offset_at kind_at live_at entry_at pick_chain
    pickable start_of link_of holds_resource visitable walk seek countable locate tally_at tally counting append_record
    link_first link_record kinds_ok asserting assert_of retracting retract_of assert_updating_of retract_updating_of open_of
    chain_ok record_ok cursor_ok walk_from next_of compare_bytes name_at names_up_to rank place_at index_place_of find_of room_for
    bring insert_at intern_as intern_of keep begins prefix_list filled prefix_of unlinked sweep_one sweep blanked swept_of
    reclaim_of call_store store_replies store_after
table-definitions = tt
