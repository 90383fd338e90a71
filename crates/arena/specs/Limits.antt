-- How large a queue may be.
use Rattle.words.specs.declared.limits.TheConstants.{MAX_CLIENTS, MAX_RECORDS}
use Rattle.std.specs.Prelude.{ℕ, ◌≡◌, ◌≤◌, ◌<◌, ◌⊎◌}

-- a queue has some clients, and each of them some records, no more than the most
pub record AreCounts (clients records : ℕ) : Type 0 where
  pub some_client : 1 ≤ clients
  pub few_clients : clients ≤ MAX_CLIENTS
  pub some_record : 1 ≤ records
  pub few_records : records ≤ MAX_RECORDS

-- the clients are right, and the records are none or too many
abbrev pub AreBadRecords : ℕ → ℕ → Type 0
AreBadRecords clients records =
    (1 ≤ clients) × (clients ≤ MAX_CLIENTS) × ((records ≡ 0) ⊎ (MAX_RECORDS < records))
