-- How a log's records are handed to the reading heads. Read View (what a call knows of its log), then Window.
pub mod View
pub mod Window
