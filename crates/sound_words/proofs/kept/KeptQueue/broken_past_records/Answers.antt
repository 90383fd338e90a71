use Rattle.std.proofs.Common.{◌≡◌, ◌<◌, ℕ, sym, ◌∙◌, arith}
use Rattle.sound_words.proofs.FirstBroken.{answers_of_entries, answers_of_rows, chain_first, claims_first, ends_first, entries_first, rows_first, unsound}
use Rattle.sound_words.proofs.kept.KeptQueue.broken_past_records.Goals as goal

-- a table that was written is as long as it was
still_long : {n old new : ℕ} → new ≡ old → n < old → n < new
still_long same long = omega arith

pub is_chain_sound-requires : goal.is_chain_sound-requires
is_chain_sound-requires g c = record { table = c.requires.places; blank = c.requires.no_place }

pub are_claims_sound-requires : goal.are_claims_sound-requires
are_claims_sound-requires g c = record {
  chain = c.is_chain_sound.ensures.sound.0 c.if-not-is_chain_sound.false;
  table = c.requires.tokens;
  blank = c.requires.no_token;
}

pub are_ends_sound-requires : goal.are_ends_sound-requires
are_ends_sound-requires g c = record {
  chain = c.is_chain_sound.ensures.sound.0 c.if-not-is_chain_sound.false;
  order = c.is_chain_sound.ensures.order c.if-not-is_chain_sound.false;
}

pub are_rows_sound-requires : goal.are_rows_sound-requires
are_rows_sound-requires g c = record {
  durable = sym c.kind.ensures ∙ c.in-Durable.is;
  chain = c.is_chain_sound.ensures.sound.0 c.if-not-is_chain_sound.false;
  claims = c.are_claims_sound.ensures.sound.0 c.if-not-are_claims_sound.false;
  places = record { long = still_long c.is_chain_sound.auto.place c.requires.places; order = c.is_chain_sound.ensures.order c.if-not-is_chain_sound.false };
  tokens = record { long = still_long c.are_claims_sound.auto.claimed c.requires.tokens; table = c.are_claims_sound.ensures.noted c.if-not-are_claims_sound.false };
  ends = c.are_ends_sound.ensures.0 c.if-not-are_ends_sound.false;
}

pub are_entries_sound-requires : goal.are_entries_sound-requires
are_entries_sound-requires g c = record {
  log = sym c.kind.ensures ∙ c.in-Log.is;
  chain = c.is_chain_sound.ensures.sound.0 c.if-not-is_chain_sound.false;
  claims = c.are_claims_sound.ensures.sound.0 c.if-not-are_claims_sound.false;
  places = record { long = still_long c.is_chain_sound.auto.place c.requires.places; order = c.is_chain_sound.ensures.order c.if-not-is_chain_sound.false };
  tokens = record { long = still_long c.are_claims_sound.auto.claimed c.requires.tokens; table = c.are_claims_sound.ensures.noted c.if-not-are_claims_sound.false };
  ends = c.are_ends_sound.ensures.0 c.if-not-are_ends_sound.false;
}

pub returns-then-not-is_chain_sound : goal.returns-then-not-is_chain_sound
returns-then-not-is_chain_sound g c = record {
  broken = chain_first _ _ _ c.requires.count c.requires.records (unsound c.is_chain_sound.ensures.sound c.if-not-is_chain_sound.true);
  survey = tt;
}

pub returns-then-not-are_claims_sound : goal.returns-then-not-are_claims_sound
returns-then-not-are_claims_sound g c = record {
  broken = claims_first _ _ _ c.requires.count c.requires.records (c.is_chain_sound.ensures.sound.0 c.if-not-is_chain_sound.false)
      (unsound c.are_claims_sound.ensures.sound c.if-not-are_claims_sound.true);
  survey = tt;
}

pub returns-then-not-are_ends_sound : goal.returns-then-not-are_ends_sound
returns-then-not-are_ends_sound g c = record {
  broken = ends_first _ _ _ c.requires.count c.requires.records (c.is_chain_sound.ensures.sound.0 c.if-not-is_chain_sound.false)
      (c.are_claims_sound.ensures.sound.0 c.if-not-are_claims_sound.false)
      (unsound c.are_ends_sound.ensures c.if-not-are_ends_sound.true);
  survey = tt;
}

pub returns-then-not-are_rows_sound : goal.returns-then-not-are_rows_sound
returns-then-not-are_rows_sound g c = record {
  broken = rows_first _ _ _ c.requires.count c.requires.records (c.is_chain_sound.ensures.sound.0 c.if-not-is_chain_sound.false)
      (c.are_claims_sound.ensures.sound.0 c.if-not-are_claims_sound.false) (c.are_ends_sound.ensures.0 c.if-not-are_ends_sound.false)
      (sym c.kind.ensures ∙ c.in-Durable.is) (unsound c.are_rows_sound.ensures c.if-not-are_rows_sound.true);
  survey = tt;
}

pub returns-then-not-are_entries_sound : goal.returns-then-not-are_entries_sound
returns-then-not-are_entries_sound g c = record {
  broken = entries_first _ _ _ c.requires.count c.requires.records (c.is_chain_sound.ensures.sound.0 c.if-not-is_chain_sound.false)
      (c.are_claims_sound.ensures.sound.0 c.if-not-are_claims_sound.false) (c.are_ends_sound.ensures.0 c.if-not-are_ends_sound.false)
      (sym c.kind.ensures ∙ c.in-Log.is) (unsound c.are_entries_sound.ensures c.if-not-are_entries_sound.true);
  survey = tt;
}

pub returns-else-not-are_rows_sound : goal.returns-else-not-are_rows_sound
returns-else-not-are_rows_sound g c = record {
  broken = record {
    count = c.requires.count;
    sound = record {
      records = c.requires.records;
      chain = c.is_chain_sound.ensures.sound.0 c.if-not-is_chain_sound.false;
      claims = c.are_claims_sound.ensures.sound.0 c.if-not-are_claims_sound.false;
      ends = c.are_ends_sound.ensures.0 c.if-not-are_ends_sound.false;
      answers = answers_of_rows _ _ _ (sym c.kind.ensures ∙ c.in-Durable.is) (c.are_rows_sound.ensures.0 c.if-not-are_rows_sound.false);
    };
  };
  survey = record {
    places = record { long = still_long c.is_chain_sound.auto.place c.requires.places; order = c.is_chain_sound.ensures.order c.if-not-is_chain_sound.false };
    tokens = record { long = still_long c.are_claims_sound.auto.claimed c.requires.tokens; table = c.are_claims_sound.ensures.noted c.if-not-are_claims_sound.false };
  };
}

pub returns-else-not-are_entries_sound : goal.returns-else-not-are_entries_sound
returns-else-not-are_entries_sound g c = record {
  broken = record {
    count = c.requires.count;
    sound = record {
      records = c.requires.records;
      chain = c.is_chain_sound.ensures.sound.0 c.if-not-is_chain_sound.false;
      claims = c.are_claims_sound.ensures.sound.0 c.if-not-are_claims_sound.false;
      ends = c.are_ends_sound.ensures.0 c.if-not-are_ends_sound.false;
      answers = answers_of_entries _ _ _ (sym c.kind.ensures ∙ c.in-Log.is) (c.are_entries_sound.ensures.0 c.if-not-are_entries_sound.false);
    };
  };
  survey = record {
    places = record { long = still_long c.is_chain_sound.auto.place c.requires.places; order = c.is_chain_sound.ensures.order c.if-not-is_chain_sound.false };
    tokens = record { long = still_long c.are_claims_sound.auto.claimed c.requires.tokens; table = c.are_claims_sound.ensures.noted c.if-not-are_claims_sound.false };
  };
}
